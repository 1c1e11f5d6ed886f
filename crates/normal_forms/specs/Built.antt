-- The constructions that there is code for: tables, spheres, K(Z,1) and circle bundles, and what products and suspensions make of these
-- (May, Simplicial Objects in Algebraic Topology, chapters I, IV and VI). The normal forms of their simplices are known.
--
--   the product of K(Z,1) and a suspension is built; the loop group of a sphere is not
use Rattle.spaces.specs.Spaces.{Space, table, sphere, product, suspension, kz1, bundle, loops, paths, kzm1, cyclic_bundle}

abbrev pub IsBuilt : Space → Type 0
IsBuilt (table t) = Unit {0}
IsBuilt (sphere m) = Unit {0}
IsBuilt (product a b) = IsBuilt a × IsBuilt b
IsBuilt (suspension a) = IsBuilt a
IsBuilt kz1 = Unit {0}
IsBuilt (bundle t c) = Unit {0}
IsBuilt (loops a) = ⊥
IsBuilt (paths a) = ⊥
IsBuilt (kzm1 m) = ⊥
IsBuilt (cyclic_bundle t m c) = ⊥
