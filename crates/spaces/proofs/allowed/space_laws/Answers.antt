use Rattle.spaces.proofs.SpaceLaws.{space_set_laws}
use Rattle.spaces.proofs.allowed.space_laws.Goals as goal

pub returns : goal.returns
returns c = λ a is. space_set_laws a is.0
