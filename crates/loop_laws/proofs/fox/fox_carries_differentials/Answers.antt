use Rattle.loop_laws.proofs.LoopSpaces.{fox-differentials}
use Rattle.loop_laws.proofs.fox.fox_carries_differentials.Goals as goal

pub returns : goal.returns
returns c = λ p a pos ad. fox-differentials p pos a ad.0
