use Rattle.spaces.specs.Nerves.{integers}
use Rattle.spaces.proofs.Nerves.{nerve_set_laws}
use Rattle.spaces.proofs.Integers.{integers_abelian}
use Rattle.spaces.proofs.laws.integers_laws.Goals as goal

pub returns : goal.returns
returns c = nerve_set_laws integers integers_abelian
