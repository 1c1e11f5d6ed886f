use Rattle.spaces.specs.Spaces.{set_of}
use Rattle.spaces.proofs.LoopLaws.{loop_set_laws}
use Rattle.spaces.proofs.loops.loop_laws.Goals as goal

pub returns : goal.returns
returns c = λ a laws. loop_set_laws (set_of a) laws
