-- The spaces that are given by rows: tables, and spheres, which have two rows, the vertex and the cell (May, Simplicial Objects in Algebraic
-- Topology, chapter I). A key about them needs no other key, but for cycles.
--
--   the sphere of dimension 2 is given by rows, K(Z,1) and the suspension of a sphere are not
use Rattle.spaces.specs.Spaces.{Space, table, sphere, product, suspension, kz1, bundle, loops, paths, kzm1, cyclic_bundle}
use Rattle.term_lang.specs.SpaceOf.{space_of}
use Rattle.oracle_iface.specs.declared.keys.Key.{Key}
use Rattle.oracle_iface.specs.Keys.{IsValidKey}

abbrev pub HasRows : Space → Type 0
HasRows (table t) = Unit {0}
HasRows (sphere m) = Unit {0}
HasRows (product a b) = ⊥
HasRows (suspension a) = ⊥
HasRows kz1 = ⊥
HasRows (bundle t c) = ⊥
HasRows (loops a) = ⊥
HasRows (paths a) = ⊥
HasRows (kzm1 m) = ⊥
HasRows (cyclic_bundle t m c) = ⊥

-- a valid key about such a space
abbrev pub IsRowKey : Key → Type 0
IsRowKey k = IsValidKey k × HasRows (space_of k.term)
