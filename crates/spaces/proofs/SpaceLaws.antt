-- The simplicial set of each allowed space is one, by recursion on the space.
use Rattle.std.proofs.Common.{◌≤◌, arith}
use Rattle.spaces.specs.Simplicial.{IsSimplicial}
use Rattle.spaces.specs.Tables.{sphere_rows}
use Rattle.spaces.specs.Nerves.{integers, integers_modulo}
use Rattle.spaces.specs.Spaces.{Space, table, sphere, product, suspension, kz1, bundle, loops, paths, kzm1, cyclic_bundle, is_base, set_of}
use Rattle.spaces.specs.Allowed.{Admits}
use Rattle.spaces.proofs.Products.{product_set_laws}
use Rattle.spaces.proofs.TableLaws.{table_set_laws}
use Rattle.spaces.proofs.SphereTable.{sphere_faces}
use Rattle.spaces.proofs.Bases.{space_base}
use Rattle.spaces.proofs.Suspensions.{suspension_set_laws}
use Rattle.spaces.proofs.Nerves.{nerve_set_laws}
use Rattle.spaces.proofs.Integers.{integers_abelian, residues_abelian}
use Rattle.spaces.proofs.CocycleTwist.{bundle_laws}
use Rattle.spaces.proofs.LoopLaws.{loop_set_laws}
use Rattle.spaces.proofs.LetterTwist.{path_set_laws}

pub space_set_laws : (a : Space) → Admits a → IsSimplicial (set_of a)
space_set_laws (table t) is = table_set_laws t is.faces
space_set_laws (sphere m) is = table_set_laws (sphere_rows m) (sphere_faces m is.0)
space_set_laws (product a b) is = product_set_laws (set_of a) (set_of b) (space_set_laws a is.0) (space_set_laws b is.1)
space_set_laws (suspension a) is = suspension_set_laws (set_of a) (is_base a) (space_set_laws a is.0) (space_base a is.0)
space_set_laws kz1 is = nerve_set_laws integers integers_abelian
space_set_laws (bundle t c) is = bundle_laws integers t c (table_set_laws t is.0.faces) integers_abelian is.1
space_set_laws (loops a) is = loop_set_laws (set_of a) (space_set_laws a is.0)
space_set_laws (paths a) is = path_set_laws (set_of a) (space_set_laws a is.0)
space_set_laws (kzm1 m) is = let l : 2 ≤ m = is.0 in nerve_set_laws (integers_modulo m) (residues_abelian m (omega (arith, l)))
space_set_laws (cyclic_bundle t m c) is =
    let l : 2 ≤ m = is.2 in bundle_laws (integers_modulo m) t c (table_set_laws t is.0.faces) (residues_abelian m (omega (arith, l))) is.1
