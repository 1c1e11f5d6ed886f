-- The reach of a simplex: a bound of the sum of the magnitudes of all integers in it, and in all that faces and degeneracies make of it.
--
-- A face of a list of integers adds neighbours, so the greatest integer may double, while the sum of the magnitudes never grows. The first
-- face of a simplex (b, f) of a bundle adds to f what its cocycle twists b by, and this only where d_0 lowers the dimension of the row that b
-- stands on, since b is twisted by 0 where it is an s_0. A simplex of degree at most 32 is twisted by at most 31 integers, differences
-- of two values of magnitude at most 100,000, so 6,200,000 for each dimension of the row is enough (May, Simplicial Objects in Algebraic
-- Topology, chapter IV, 18 and 21). Spaces that there is no code for have the reach 0.
--
--   in K(Z,1) |2|-3| has the reach 5 and its face |-1| the reach 1; in a bundle on the 2-sphere the cell of the sphere with |2|-3| has the
--   reach 12400005
use Rattle.std.specs.Prelude.{ℕ, ◌+◌, ◌*◌, List, [], ◌∷◌, ℤ, nat_abs}
use Rattle.spaces.specs.Tables.{row_at}
use Rattle.spaces.specs.Spaces.{Space, table, sphere, product, suspension, kz1, bundle, loops, paths, kzm1, cyclic_bundle, Plain}
use Rattle.values.specs.Sizes.{at_some}

-- the sum of the magnitudes
abbrev pub total : List ℤ → ℕ
total [] = 0
total (a ∷ x) = nat_abs a + total x

-- what a twist adds at most: 31 integers of magnitude at most 200,000
abbrev pub most_twisted : ℕ
most_twisted = 6200000

abbrev pub reach : (X : Space) → Plain X → ℕ
reach (table t) x = 0
reach (sphere m) x = 0
reach (product a b) x = reach a x.0 + reach b x.1
reach (suspension a) x = at_some (λ s. reach a s.1) x
reach kz1 x = total x
reach (bundle t c) x = total x.1 + most_twisted * (row_at t x.0.1).dim
reach (loops a) x = 0
reach (paths a) x = 0
reach (kzm1 m) x = 0
reach (cyclic_bundle t m c) x = 0
