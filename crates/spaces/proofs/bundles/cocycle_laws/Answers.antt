use Rattle.spaces.specs.Nerves.{integers}
use Rattle.spaces.proofs.Integers.{integers_abelian}
use Rattle.spaces.proofs.TableLaws.{table_set_laws}
use Rattle.spaces.proofs.CocycleTwist.{cocycle_is_twisting}
use Rattle.spaces.proofs.bundles.cocycle_laws.Goals as goal

pub returns : goal.returns
returns c = λ t values is closed. cocycle_is_twisting integers t values (table_set_laws t is.faces) integers_abelian closed
