-- The states of a session: each name stands for a space that is allowed and whose values the code computes.
--
--   a state in which x stands for the product of two spheres of dimension 2 is whole; with the sphere of dimension 17 it is not
use Rattle.std.specs.List.{AllByRecursion}
use Rattle.spaces.specs.Allowed.{IsAllowed}
use Rattle.spaces.specs.Spaces.{Space, table, sphere, product, suspension, kz1, bundle, loops, paths, kzm1, cyclic_bundle}
use Rattle.term_lang.specs.SpaceOf.{space_of}
use Rattle.normal_forms.specs.Built.{IsBuilt}
use Rattle.session_core.specs.Answer.{Names, State}

-- an allowed space that sessions answer for: a table, a sphere, K(Z,1), a circle bundle, or what products and suspensions make of these
abbrev pub IsReady : Space → Type 0
IsReady X = IsAllowed X × IsBuilt X

abbrev pub AreReady : Names → Type 0
AreReady names = AllByRecursion (λ n. IsReady (space_of n.1)) names

abbrev pub IsWhole : State → Type 0
IsWhole s = AreReady s.names

-- a table or a sphere: its cells are rows, and none of its values meets a limit, while one of H on K(Z,1) may
abbrev pub HasRows : Space → Type 0
HasRows (table t) = Unit {0}
HasRows (sphere m) = Unit {0}
HasRows (product a b) = ⊥
HasRows (suspension a) = ⊥
HasRows kz1 = ⊥
HasRows (bundle t c) = ⊥
HasRows (loops a) = ⊥
HasRows (paths a) = ⊥
HasRows (kzm1 m) = ⊥
HasRows (cyclic_bundle t m c) = ⊥
