use Rattle.spaces.specs.Nerves.{integers}
use Rattle.spaces.proofs.NerveGroup.{nerve_group}
use Rattle.spaces.proofs.Integers.{integers_abelian}
use Rattle.spaces.proofs.laws.integers_group.Goals as goal

pub returns : goal.returns
returns c = nerve_group integers integers_abelian
