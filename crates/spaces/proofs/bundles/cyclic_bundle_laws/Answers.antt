use Rattle.std.proofs.Common.{◌≤◌, arith}
use Rattle.spaces.specs.Nerves.{integers_modulo}
use Rattle.spaces.proofs.Integers.{residues_abelian}
use Rattle.spaces.proofs.TableLaws.{table_set_laws}
use Rattle.spaces.proofs.CocycleTwist.{bundle_laws}
use Rattle.spaces.proofs.bundles.cyclic_bundle_laws.Goals as goal

pub returns : goal.returns
returns c =
    λ t m values is. let l : 2 ≤ m = is.2 in bundle_laws (integers_modulo m) t values (table_set_laws t is.0.faces) (residues_abelian m (omega (arith, l))) is.1
