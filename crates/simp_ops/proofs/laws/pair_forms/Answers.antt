use Rattle.simp_ops.proofs.Squeezed.{pair_forms}
use Rattle.simp_ops.proofs.laws.pair_forms.Goals as goal

pub returns : goal.returns
returns c = pair_forms
