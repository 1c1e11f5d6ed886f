use Rattle.normal_forms.proofs.BuiltForms.{built_cells}
use Rattle.space_faces.proofs.ShownChains.{chain_low, chain_back}
use Rattle.space_faces.proofs.laws.quoted_chains.Goals as goal

pub returns-clause-cells : goal.returns-clause-cells
returns-clause-cells c X is built = chain_low X (built_cells X is built) is.0

pub returns-clause-back : goal.returns-clause-back
returns-clause-back c X is built = chain_back X (built_cells X is built)
