use Rattle.loop_laws.proofs.LoopSpaces.{pairs-complex}
use Rattle.loop_laws.proofs.letters.letter_pairs_are_a_complex.Goals as goal

pub returns : goal.returns
returns c = λ p a pos ad. pairs-complex p pos a ad.0
