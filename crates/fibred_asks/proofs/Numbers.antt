-- How far the reaches of chains grow in degrees up to 31: a room and a series leave them far below 2^40.
use Rattle.std.proofs.Common.{ℕ, zero, suc, ◌+◌, ◌*◌, ◌^◌, ◌≤◌, List, Option, Some, None, ℤ, arith}
use Rattle.twist_chains.specs.Fibred.{growth, room}
use Rattle.fibred_asks.specs.Seconds.{series_room}

at-most : (a b g : ℕ) → a ≤ b → a * g ≤ b * g
at-most zero b g l = omega arith
at-most (suc a) zero g l = absurd (omega (arith, l))
at-most (suc a) (suc b) g l = omega (arith, at-most a b g (omega (arith, l)))

growth-low : (values : Option (List ℤ)) → growth values ≤ 6200000
growth-low None = omega arith
growth-low (Some values) = omega arith

module _ (values : Option (List ℤ)) (n : ℕ) (low : n ≤ 31) where
  one-low : (n + 2) * growth values ≤ 204600000
  one-low = let u = at-most (n + 2) 33 (growth values) (omega (arith, low)) in omega (arith, u, growth-low values)

  all-low : suc n * ((n + 2) * growth values) ≤ 6547200000
  all-low = let u = at-most (suc n) 32 ((n + 2) * growth values) (omega (arith, low)) in omega (arith, u, one-low)

  pub room-within : (m k : ℕ) → m + 204600000 ≤ k → room values n m ≤ k
  room-within m k l = omega (arith, l, one-low)

  pub series-within : (m k : ℕ) → m + 6547200000 ≤ k → series_room values n m ≤ k
  series-within m k l = omega (arith, l, all-low)

pub far : 62000000000 ≤ 2 ^ 40
far = omega arith
