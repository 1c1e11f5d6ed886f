use Rattle.loop_laws.proofs.LoopSpaces.{fox-respects}
use Rattle.loop_laws.proofs.fox.fox_respects_degeneracies.Goals as goal

pub returns : goal.returns
returns c = λ p a pos ad. fox-respects p pos a ad.0
