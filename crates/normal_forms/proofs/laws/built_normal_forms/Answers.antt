use Rattle.normal_forms.proofs.BuiltForms.{built_forms, built_cells}
use Rattle.normal_forms.proofs.laws.built_normal_forms.Goals as goal

pub returns : goal.returns
returns c = record { simplices = built_forms; cells = built_cells }
