use Rattle.spaces.specs.Nerves.{integers}
use Rattle.spaces.proofs.Integers.{integers_abelian}
use Rattle.spaces.proofs.TableLaws.{table_set_laws}
use Rattle.spaces.proofs.CocycleTwist.{bundle_laws}
use Rattle.spaces.proofs.bundles.bundle_laws.Goals as goal

pub returns : goal.returns
returns c = λ t values is. bundle_laws integers t values (table_set_laws t is.0.faces) integers_abelian is.1
