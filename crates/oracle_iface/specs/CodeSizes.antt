-- Sizes of the cells and values of the code: the greatest number of letters of one word, at any depth, the greatest magnitude of an
-- integer, and the number of terms of a chain, of cells of a basis or of chains of a list, or the greatest length of a chain of a list.
--
--   the pair of S2 before 1-0:| and |3|-5| has the integer 5; of the list with the chains of 2 and 7 terms the size in terms is 7
use Rattle.std.specs.Prelude.{ℕ, max, List, length, nat_abs}
use Rattle.fp_field.specs.Chains.{Terms}
use Rattle.values.specs.Sizes.{Size, greatest}
use Rattle.cells.specs.declared.cells.Cell.{Cell, fold-Cell}
use Rattle.cells.specs.declared.cells.Cell.TheOpen.{Cell-F, Letter-F, Simplex-F}
use Rattle.cells.specs.declared.cells.SmallCell.{SmallCell, fold-SmallCell}
use Rattle.cells.specs.declared.cells.SmallCell.TheOpen.{SmallCell-F}
use Rattle.oracle_iface.specs.declared.bodies.Body.{Body}
use Rattle.oracle_iface.specs.declared.bodies.Body.TheVariants.{Cells, Small, Big, Many}

abbrev pub greatest_of : List ℕ → ℕ
greatest_of ns = greatest (λ n. n) ns

-- ---- letters, from those of the cells in it

abbrev pub letters_step : Cell-F ℕ ℕ ℕ → ℕ
letters_step (Cell-F.Row dim row) = 0
letters_step Cell-F.Base = 0
letters_step (Cell-F.Top n) = 0
letters_step (Cell-F.Pair x y) = max x y
letters_step (Cell-F.Up c) = c
letters_step (Cell-F.Ints list) = 0
letters_step (Cell-F.Word letters) = max (length letters) (greatest_of letters)

abbrev pub letter_step : Letter-F ℕ ℕ ℕ → ℕ
letter_step l = l.simplex

abbrev pub simplex_step : Simplex-F ℕ ℕ ℕ → ℕ
simplex_step x = x.cell

unfoldable pub cell_letters : Cell → ℕ
cell_letters c = fold-Cell ℕ ℕ ℕ letters_step letter_step simplex_step c

abbrev pub small_letters_step : SmallCell-F ℕ → ℕ
small_letters_step (SmallCell-F.One c) = cell_letters c
small_letters_step (SmallCell-F.Pair x y) = max x y
small_letters_step (SmallCell-F.Up y) = y
small_letters_step (SmallCell-F.Word letters) = max (length letters) (greatest_of letters)

unfoldable pub small_cell_letters : SmallCell → ℕ
small_cell_letters y = fold-SmallCell ℕ small_letters_step y

-- ---- integers

abbrev pub integer_step : Cell-F ℕ ℕ ℕ → ℕ
integer_step (Cell-F.Row dim row) = 0
integer_step Cell-F.Base = 0
integer_step (Cell-F.Top n) = 0
integer_step (Cell-F.Pair x y) = max x y
integer_step (Cell-F.Up c) = c
integer_step (Cell-F.Ints list) = greatest nat_abs list
integer_step (Cell-F.Word letters) = greatest_of letters

unfoldable pub cell_integer : Cell → ℕ
cell_integer c = fold-Cell ℕ ℕ ℕ integer_step letter_step simplex_step c

abbrev pub small_integer_step : SmallCell-F ℕ → ℕ
small_integer_step (SmallCell-F.One c) = cell_integer c
small_integer_step (SmallCell-F.Pair x y) = max x y
small_integer_step (SmallCell-F.Up y) = y
small_integer_step (SmallCell-F.Word letters) = greatest_of letters

unfoldable pub small_cell_integer : SmallCell → ℕ
small_cell_integer y = fold-SmallCell ℕ small_integer_step y

-- ---- values

abbrev pub basis_size : List SmallCell → Size
basis_size ys = record { letters = greatest small_cell_letters ys; integer = greatest small_cell_integer ys; terms = length ys }

abbrev pub small_terms_size : Terms SmallCell → Size
small_terms_size c =
    record { letters = greatest (λ t. small_cell_letters t.0) c; integer = greatest (λ t. small_cell_integer t.0) c; terms = length c }

abbrev pub terms_size : Terms Cell → Size
terms_size c = record { letters = greatest (λ t. cell_letters t.0) c; integer = greatest (λ t. cell_integer t.0) c; terms = length c }

abbrev pub body_size : Body → Size
body_size (Cells ys) = basis_size ys
body_size (Small c) = small_terms_size c.terms
body_size (Big c) = terms_size c.terms
body_size (Many zs) = record {
  letters = greatest (λ c. (terms_size c.terms).letters) zs;
  integer = greatest (λ c. (terms_size c.terms).integer) zs;
  terms = max (length zs) (greatest (λ c. length c.terms) zs);
}
