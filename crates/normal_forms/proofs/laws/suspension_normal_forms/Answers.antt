use Rattle.normal_forms.proofs.Suspended.{suspended_cells}
use Rattle.normal_forms.proofs.laws.suspension_normal_forms.Goals as goal

pub returns : goal.returns
returns c a allowed n most part = suspended_cells a allowed n most part
