use Rattle.spaces.specs.Spaces.{set_of}
use Rattle.spaces.proofs.LoopGroup.{loop_group}
use Rattle.spaces.proofs.loops.loop_group_laws.Goals as goal

pub returns : goal.returns
returns c = λ a laws. loop_group (set_of a) laws
