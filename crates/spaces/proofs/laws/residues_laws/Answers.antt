use Rattle.spaces.specs.Nerves.{integers_modulo}
use Rattle.spaces.proofs.Nerves.{nerve_set_laws}
use Rattle.spaces.proofs.Integers.{residues_abelian}
use Rattle.spaces.proofs.laws.residues_laws.Goals as goal

pub returns : goal.returns
returns c = λ m p. nerve_set_laws (integers_modulo m) (residues_abelian m p)
