use Rattle.values.proofs.bases.row_basis_laws.Goals as goal
use Rattle.spaces.specs.Spaces.{table}
use Rattle.values.proofs.BasesCells.{basis-members, sphere-vertex, sphere-cell, sphere-no_other}

pub returns : goal.returns
returns c = record { rows = λ p t n r. basis-members p (table t) n r; vertex = sphere-vertex; cell = sphere-cell; no_other = sphere-no_other }
