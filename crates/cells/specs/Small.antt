-- The degree and the order of small cells.
--
-- The small complex of a product has as generators the pairs of generators of the parts, of degree the sum (the tensor product);
-- that of a suspension one above each generator of positive degree; that of a loop group the words of generators of degree 2 or
-- more, each letter counting one degree less (the cobar construction: Rubio and Sergeraert, Constructive Homological Algebra and
-- Applications). A degree above 4,294,967,295 is that number, at each level on the way up.
--
-- Small cells are compared by degree, then by kind in the order of the enum, then by what they hold: a cell of the space by the
-- order of cells, pairs by the left and then the right part, suspended ones by the one below, words by the first different letter,
-- and of two of which one begins the other the shorter is less. This is the order in which bases list them. For example the word of
-- two letters of degree 2 has degree 2, and so has the word of one letter of degree 3, which is greater.
use Rattle.std.specs.Prelude.{ℕ, ◌+◌, ◌-◌, List, [], ◌∷◌, pos}
use Rattle.std.specs.Ordering.{on, nat_cmp, ordering_then}
use Rattle.std.specs.Cmp.Lexicographic.{slice_cmp}
use Rattle.std.specs.declared.cmp.Ordering.{Ordering}
use Rattle.std.specs.declared.cmp.Ordering.TheVariants.{Equal}
use Rattle.cells.specs.declared.cells.SmallCell.{SmallCell, fold-SmallCell, para-SmallCell, out-SmallCell}
use Rattle.cells.specs.declared.cells.SmallCell.TheOpen.{SmallCell-F}
use Rattle.cells.specs.Forests.{Forest, end, item, forest_cmp}
use Rattle.cells.specs.Dim.{dim_of, capped}
use Rattle.cells.specs.Order.{number, forest, cell_cmp}

abbrev pub less_one_sum : List ℕ → ℕ
less_one_sum [] = 0
less_one_sum (n ∷ w) = n - 1 + less_one_sum w

abbrev pub small_degree : SmallCell-F ℕ → ℕ
small_degree (SmallCell-F.One c) = dim_of c
small_degree (SmallCell-F.Pair a b) = capped (a + b)
small_degree (SmallCell-F.Up c) = capped (c + 1)
small_degree (SmallCell-F.Word letters) = capped (less_one_sum letters)

unfoldable pub degree_of_small : SmallCell → ℕ
degree_of_small c = fold-SmallCell ℕ small_degree c

abbrev pub below_each : List (SmallCell × Forest) → Forest
below_each [] = end
below_each (l ∷ w) = item (pos 0) l.1 (below_each w)

abbrev pub degrees : List (SmallCell × Forest) → List ℕ
degrees [] = []
degrees (l ∷ w) = degree_of_small l.0 ∷ degrees w

-- the degree, the kind, and what is compared within the kind
abbrev pub small_step : SmallCell-F (SmallCell × Forest) → Forest
small_step (SmallCell-F.One c) = number (dim_of c) (number 0 (forest c))
small_step (SmallCell-F.Pair a b) = number (capped (degree_of_small a.0 + degree_of_small b.0)) (number 1 (item (pos 0) a.1 (item (pos 0) b.1 end)))
small_step (SmallCell-F.Up c) = number (capped (degree_of_small c.0 + 1)) (number 2 c.1)
small_step (SmallCell-F.Word letters) = number (capped (less_one_sum (degrees letters))) (number 3 (below_each letters))

unfoldable pub small_forest : SmallCell → Forest
small_forest c = para-SmallCell Forest small_step c

abbrev pub small_cmp : SmallCell → SmallCell → Ordering
small_cmp = on small_forest forest_cmp

abbrev pub small_kind_in : {A : Type 0} → SmallCell-F A → ℕ
small_kind_in (SmallCell-F.One c) = 0
small_kind_in (SmallCell-F.Pair a b) = 1
small_kind_in (SmallCell-F.Up c) = 2
small_kind_in (SmallCell-F.Word letters) = 3

abbrev pub small_kind_of : SmallCell → ℕ
small_kind_of c = small_kind_in (out-SmallCell c)

-- by degree, then by kind
abbrev pub small_kinds_cmp : SmallCell → SmallCell → Ordering
small_kinds_cmp c d = ordering_then (nat_cmp (degree_of_small c) (degree_of_small d)) (nat_cmp (small_kind_of c) (small_kind_of d))

-- how two small cells of one degree and one kind compare
abbrev pub small_within : SmallCell-F SmallCell → SmallCell-F SmallCell → Ordering
small_within (SmallCell-F.One c) (SmallCell-F.One d) = cell_cmp c d
small_within (SmallCell-F.Pair a x) (SmallCell-F.Pair b y) = ordering_then (small_cmp a b) (small_cmp x y)
small_within (SmallCell-F.Up c) (SmallCell-F.Up d) = small_cmp c d
small_within (SmallCell-F.Word v) (SmallCell-F.Word w) = slice_cmp small_cmp v w
small_within y z = Equal

abbrev pub small_within_cmp : SmallCell → SmallCell → Ordering
small_within_cmp c d = small_within (out-SmallCell c) (out-SmallCell d)
