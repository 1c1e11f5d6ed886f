-- Worked values for the bundle over the sphere S2 by the cocycle 1, the Hopf fibration, by computation. The values were found by hand.
use Rattle.std.proofs.Common.{◌≡◌, List, [], ◌∷◌, refl}
use Rattle.std.specs.Prelude.{ℤ, pos}
use Rattle.fp_field.specs.Reduction.{one}
use Rattle.spaces.specs.Tables.{Table, RowSimplex, sphere_rows}
use Rattle.spaces.specs.Spaces.{table, kz1, bundle, set_of}
use Rattle.spaces.specs.Orders.{ordered}
use Rattle.spaces.specs.EilenbergZilber.{Pair, linear}
use Rattle.values.specs.Laws.{cells}
use Rattle.values.specs.Rules.{bundle_twist}
use Rattle.twist_laws.specs.TwistedComplexes.{on_pairs}
use Rattle.twist_laws.specs.TwistedProducts.{bundle_pairs}
use Rattle.twist_laws.specs.LeftDegrees.{transferred}

abbrev base : Table
base = sphere_rows 2

-- the value of each row: 0 on the vertex, 1 on S2
abbrev one_class : List ℤ
one_class = pos 0 ∷ (pos 1 ∷ [])

abbrev P : Type 0
P = Pair RowSimplex (List ℤ)

abbrev s2_and_zeros : P
s2_and_zeros = (2, ([], 1), pos 0 ∷ (pos 0 ∷ []))

-- d(S2, |0|0|) is (s_0 v, |1|): the other two faces, and the untwisted first one, are degenerate
twisted_d : (bundle_pairs 3 base one_class).d s2_and_zeros ≡ ((1, (0 ∷ [], 0), pos 1 ∷ []), 1) ∷ []
twisted_d = refl

cell_d : (on_pairs (cells 3 (bundle base one_class))).d s2_and_zeros ≡ ((1, (0 ∷ [], 0), pos 1 ∷ []), 1) ∷ []
cell_d = refl

-- r(S2 (x) *) = * (x) |1|, where k q is 0, so that P is 1
transferred_class : transferred 3 (linear (ordered (table base))) (set_of (table base)).In (ordered kz1) (bundle_twist 3 base one_class) one (2, ([], 1), 0, [])
    ≡ ((0, ([], 0), 1, pos 1 ∷ []), 1) ∷ []
transferred_class = refl
