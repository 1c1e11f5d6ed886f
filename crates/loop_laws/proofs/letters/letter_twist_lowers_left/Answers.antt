use Rattle.loop_laws.proofs.LoopSpaces.{letters-lower-left}
use Rattle.loop_laws.proofs.letters.letter_twist_lowers_left.Goals as goal

pub returns : goal.returns
returns c = λ p a pos ad. letters-lower-left p pos a ad.0
