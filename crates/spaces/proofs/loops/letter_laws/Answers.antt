use Rattle.spaces.specs.Spaces.{set_of}
use Rattle.spaces.proofs.LetterTwist.{letter_twisting}
use Rattle.spaces.proofs.loops.letter_laws.Goals as goal

pub returns : goal.returns
returns c = λ a laws. letter_twisting (set_of a) laws
