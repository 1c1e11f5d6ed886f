use Rattle.loop_laws.proofs.FoxReduction.{fox-inverse}
use Rattle.loop_laws.proofs.fox.fox_is_inverse.Goals as goal

pub returns : goal.returns
returns c = λ p a pos ad. fox-inverse p pos a ad.0
