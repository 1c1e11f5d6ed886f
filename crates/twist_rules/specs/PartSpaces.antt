-- Products and circle bundles by their base and their fibre (May, Simplicial Objects in Algebraic Topology, chapter IV, 18; Rubio and
-- Sergeraert, Constructive Homological Algebra and Applications, chapter 3).
--
-- A product has its first factor as base and its second as fibre; a bundle of K(Z,1) has its table and K(Z,1).
--
--   the bundle of a cocycle on a table t has the base `table t` and the fibre `kz1`
use Rattle.spaces.specs.Spaces.{Space, table, sphere, product, suspension, kz1, bundle, loops, paths, kzm1, cyclic_bundle}

abbrev pub IsFibred : Space → Type 0
IsFibred (table t) = ⊥
IsFibred (sphere m) = ⊥
IsFibred (product a b) = Unit {0}
IsFibred (suspension a) = ⊥
IsFibred kz1 = ⊥
IsFibred (bundle t c) = Unit {0}
IsFibred (loops a) = ⊥
IsFibred (paths a) = ⊥
IsFibred (kzm1 m) = ⊥
IsFibred (cyclic_bundle t m c) = ⊥

-- of any other space, the space itself
abbrev pub base_of : Space → Space
base_of (product a b) = a
base_of (bundle t c) = table t
base_of s = s

abbrev pub fibre_of : Space → Space
fibre_of (product a b) = b
fibre_of (bundle t c) = kz1
fibre_of s = s
