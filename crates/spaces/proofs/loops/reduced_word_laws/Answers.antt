use Rattle.spaces.specs.Spaces.{set_of}
use Rattle.spaces.proofs.Reduced.{reduced_words}
use Rattle.spaces.proofs.loops.reduced_word_laws.Goals as goal

pub returns : goal.returns
returns c = λ a laws. reduced_words (set_of a) laws
