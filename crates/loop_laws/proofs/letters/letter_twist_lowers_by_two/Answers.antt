use Rattle.loop_laws.proofs.LoopSpaces.{letters-transfer}
use Rattle.loop_laws.proofs.letters.letter_twist_lowers_by_two.Goals as goal

pub returns : goal.returns
returns c = λ p a P pos ad is. letters-transfer p pos a ad.0 P is
