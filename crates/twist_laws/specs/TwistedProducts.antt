-- The complexes of products and of bundles of K(Z,1), on pairs (May, Simplicial Objects, chapters IV, 18, and VI, 31).
--
--   in the bundle of the cocycle 1 on the sphere S2, d(S2, |0|0|) is (s_0 v, |1|), where v is the vertex
use Rattle.std.specs.Prelude.{ℕ, List, ℤ}
use Rattle.fp_field.specs.Reduction.{Complex}
use Rattle.spaces.specs.Tables.{Table, RowSimplex}
use Rattle.spaces.specs.Spaces.{Space, table, kz1, Plain, set_of}
use Rattle.spaces.specs.Orders.{ordered}
use Rattle.spaces.specs.EilenbergZilber.{Pair, linear}
use Rattle.values.specs.Twists.{untwisted}
use Rattle.values.specs.Rules.{bundle_twist}
use Rattle.twist_laws.specs.TwistedComplexes.{twisted_complex}

abbrev pub product_pairs : ℕ → (a b : Space) → Complex (Pair (Plain a) (Plain b))
product_pairs p a b = twisted_complex p (linear (ordered a)) (set_of a).In (ordered b) untwisted

abbrev pub bundle_pairs : ℕ → Table → List ℤ → Complex (Pair RowSimplex (List ℤ))
bundle_pairs p t c = twisted_complex p (linear (ordered (table t))) (set_of (table t)).In (ordered kz1) (bundle_twist p t c)
