use Rattle.spaces.specs.Nerves.{integers_modulo}
use Rattle.spaces.proofs.NerveGroup.{nerve_group}
use Rattle.spaces.proofs.Integers.{residues_abelian}
use Rattle.spaces.proofs.laws.residues_group.Goals as goal

pub returns : goal.returns
returns c = λ m p. nerve_group (integers_modulo m) (residues_abelian m p)
