use Rattle.kz1_group.proofs.ListForms.{integers_forms, integers_cells}
use Rattle.kz1_group.proofs.simplices.integers_normal_forms.Goals as goal

pub returns : goal.returns
returns c = record { simplices = integers_forms; cells = integers_cells }
