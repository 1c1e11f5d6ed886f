-- Small cells of the code and those of the definitions: the small cell that a value of the code stands for in a space, and the value of
-- the code for a small cell (the small complexes of Rubio and Sergeraert, Constructive Homological Algebra and Applications).
--
-- What is no small cell of the space stands for its first row, for its vertex, or for the empty word.
--
--   Word of One(Top(2)) and One(Top(2)) stands in the loop group of the sphere of dimension 2 for the word of its row 1, twice
use Rattle.std.specs.Prelude.{ℕ, List, [], map, pos, Option, Some, None}
use Rattle.spaces.specs.Tables.{sphere_rows}
use Rattle.spaces.specs.Spaces.{Space, table, sphere, product, suspension, kz1, bundle, loops, paths, kzm1, cyclic_bundle}
use Rattle.spaces.specs.SmallCells.{Small, row_dim}
use Rattle.cells.specs.declared.cells.Cell.TheVariants.{Row, Base, Ints}
use Rattle.cells.specs.declared.cells.SmallCell.{SmallCell, fold-SmallCell}
use Rattle.cells.specs.declared.cells.SmallCell.TheOpen.{SmallCell-F}
use Rattle.cells.specs.declared.cells.SmallCell.TheVariants.{One, Pair, Up, Word}
use Rattle.term_lang.specs.Forms.{cell_form}
use Rattle.term_lang.specs.Quote.{sphere_cell}

abbrev pub SmallForm : Type 0
SmallForm = (a : Space) → Small a

abbrev pub first_small : (a : Space) → Small a
first_small (table t) = 0
first_small (sphere m) = 0
first_small (product a b) = (first_small a, first_small b)
first_small (suspension a) = None
first_small kz1 = []
first_small (bundle t c) = (0, [])
first_small (loops a) = []
first_small (paths a) = (first_small a, [])
first_small (kzm1 m) = []
first_small (cyclic_bundle t m c) = (0, [])

-- from the small cells in it
abbrev pub small_step : SmallCell-F SmallForm → SmallForm
small_step (SmallCell-F.One c) (table t) = (cell_form c (table t)).1
small_step (SmallCell-F.One c) (sphere m) = (cell_form c (sphere m)).1
small_step (SmallCell-F.One c) kz1 = cell_form c kz1
small_step (SmallCell-F.One c) (kzm1 m) = cell_form c (kzm1 m)
small_step (SmallCell-F.Pair x y) (product a b) = (x a, y b)
small_step (SmallCell-F.Pair x y) (bundle t c) = (x (table t), y kz1)
small_step (SmallCell-F.Pair x y) (paths a) = (x a, y (loops a))
small_step (SmallCell-F.Pair x y) (cyclic_bundle t m c) = (x (table t), y (kzm1 m))
small_step (SmallCell-F.Up y) (suspension a) = Some (y a)
small_step (SmallCell-F.Word w) (loops a) = map (λ y. y a) w
small_step y a = first_small a

unfoldable pub small_form : SmallCell → SmallForm
small_form y = fold-SmallCell SmallForm small_step y

-- ---- the value of the code for a small cell

abbrev pub suspended_small : {S : Type 0} → (S → SmallCell) → Option S → SmallCell
suspended_small quote None = One Base
suspended_small quote (Some y) = Up (quote y)

abbrev pub quote_row : ℕ → ℕ → SmallCell
quote_row dim row = One (Row dim row)

abbrev pub quote_residues : List ℕ → SmallCell
quote_residues list = One (Ints (map (λ k. pos k) list))

abbrev pub quote_small : (a : Space) → Small a → SmallCell
quote_small (table t) r = quote_row (row_dim t r) r
quote_small (sphere m) r = One (sphere_cell (row_dim (sphere_rows m) r) ([], r))
quote_small (product a b) y = Pair (quote_small a y.0) (quote_small b y.1)
quote_small (suspension a) y = suspended_small (quote_small a) y
quote_small kz1 y = One (Ints y)
quote_small (bundle t c) y = Pair (quote_row (row_dim t y.0) y.0) (One (Ints y.1))
quote_small (loops a) w = Word (map (quote_small a) w)
quote_small (paths a) y = Pair (quote_small a y.0) (Word (map (quote_small a) y.1))
quote_small (kzm1 m) y = quote_residues y
quote_small (cyclic_bundle t m c) y = Pair (quote_row (row_dim t y.0) y.0) (quote_residues y.1)
