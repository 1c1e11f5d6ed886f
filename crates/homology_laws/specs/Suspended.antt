-- Suspensions, taken any number of times, and what their laws ask of the values (Rubio and Sergeraert, Constructive Homological Algebra
-- and Applications, chapter 2; May, Simplicial Objects, chapter VI, 27).
--
--   the innermost part of the suspension of the suspension of K(Z,1) is K(Z,1)
use Rattle.std.specs.Prelude.{◌≡◌, ℕ, false}
use Rattle.spaces.specs.Spaces.{Space, table, sphere, product, suspension, kz1, bundle, loops, paths, kzm1, cyclic_bundle}
use Rattle.values.specs.Asks.{Ask, value_with}
use Rattle.values.specs.Values.{value, right_side}
use Rattle.values.specs.Ranks.{IsPlace, space_of, is_cycles}

-- the space that is left when all outer suspensions are taken off
abbrev pub innermost : Space → Space
innermost (table t) = table t
innermost (sphere m) = sphere m
innermost (product a b) = product a b
innermost (suspension a) = innermost a
innermost kz1 = kz1
innermost (bundle t c) = bundle t c
innermost (loops a) = loops a
innermost (paths a) = paths a
innermost (kzm1 m) = kzm1 m
innermost (cyclic_bundle t m c) = cyclic_bundle t m c

-- The values of the questions about a space, at its places and but for cycles, are what their right sides give.
abbrev pub IsGivenBack : ℕ → Space → Type 0
IsGivenBack p a = (k : Ask) → space_of k ≡ a → is_cycles k ≡ false → IsPlace p k → value p k ≡ value_with (value p) (right_side p k)
