-- Spaces without loop and path spaces, and those that are made of tables, spheres, K(Z,1) and its bundles (Rubio and Sergeraert,
-- Constructive Homological Algebra and Applications, chapters 2 and 3).
--
-- The right side of a question about a space of the first kind asks about its parts alone, which are less deep, so that its value is what
-- the right side gives. The maps of a space of the second kind are a reduction.
--
--   the product of the suspension of K(Z,1) and a bundle is assembled; that of a sphere and K(Z/3,1) is loopless only
use Rattle.spaces.specs.Spaces.{Space, table, sphere, product, suspension, kz1, bundle, loops, paths, kzm1, cyclic_bundle}

abbrev pub IsLoopless : Space → Type 0
IsLoopless (table t) = Unit {0}
IsLoopless (sphere m) = Unit {0}
IsLoopless (product a b) = IsLoopless a × IsLoopless b
IsLoopless (suspension a) = IsLoopless a
IsLoopless kz1 = Unit {0}
IsLoopless (bundle t c) = Unit {0}
IsLoopless (loops a) = ⊥
IsLoopless (paths a) = ⊥
IsLoopless (kzm1 m) = Unit {0}
IsLoopless (cyclic_bundle t m c) = Unit {0}

abbrev pub IsAssembled : Space → Type 0
IsAssembled (table t) = Unit {0}
IsAssembled (sphere m) = Unit {0}
IsAssembled (product a b) = IsAssembled a × IsAssembled b
IsAssembled (suspension a) = IsAssembled a
IsAssembled kz1 = Unit {0}
IsAssembled (bundle t c) = Unit {0}
IsAssembled (loops a) = ⊥
IsAssembled (paths a) = ⊥
IsAssembled (kzm1 m) = ⊥
IsAssembled (cyclic_bundle t m c) = ⊥
