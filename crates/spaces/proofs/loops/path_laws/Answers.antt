use Rattle.spaces.specs.Spaces.{set_of}
use Rattle.spaces.proofs.LetterTwist.{path_set_laws}
use Rattle.spaces.proofs.loops.path_laws.Goals as goal

pub returns : goal.returns
returns c = λ a laws. path_set_laws (set_of a) laws
