use Rattle.spaces.specs.Nerves.{integers_modulo}
use Rattle.spaces.proofs.Integers.{residues_abelian}
use Rattle.spaces.proofs.TableLaws.{table_set_laws}
use Rattle.spaces.proofs.CocycleTwist.{cocycle_is_twisting}
use Rattle.spaces.proofs.bundles.cyclic_cocycle_laws.Goals as goal

pub returns : goal.returns
returns c = λ t m values p is closed. cocycle_is_twisting (integers_modulo m) t values (table_set_laws t is.faces) (residues_abelian m p) closed
