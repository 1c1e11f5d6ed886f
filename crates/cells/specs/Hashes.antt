-- What is fed to a hash function for a cell, a simplex, a letter and a small cell.
--
-- It is read off the forest by which a value is compared, so values that compare as equal feed the same. Of a cell it is the kind as
-- one byte, the dimension of a row or of the cell of a sphere, and then each number within, as eight bytes; of a small cell the kind
-- and then what is within. No other dimension and no degree is fed, as the rest tells it. For example the vertex of a sphere feeds the
-- one byte 1, and s_0 before it the eight bytes of the mask 1 and then that byte.
use Rattle.std.specs.Prelude.{◌≡◌, true, cond, ℤ, pos, [], ◌++◌}
use Rattle.std.proofs.Common.{refl, sym, ap, true≢false}
use Rattle.std.specs.Hash.{HashWrites, i8, i64}
use Rattle.std.specs.Ordering.{eq_by_cmp, int_eq, is_eq}
use Rattle.std.specs.declared.cmp.Ordering.{Ordering}
use Rattle.std.specs.declared.cmp.Ordering.TheVariants.{Less, Equal, Greater}
use Rattle.cells.specs.declared.cells.Cell.{Cell}
use Rattle.cells.specs.declared.cells.Letter.{Letter}
use Rattle.cells.specs.declared.cells.Simplex.{Simplex}
use Rattle.cells.specs.declared.cells.SmallCell.{SmallCell}
use Rattle.cells.specs.Forests.{Forest, end, item}
use Rattle.cells.specs.ForestLaws.{forest_is}
use Rattle.cells.specs.Order.{forest, simplex_forest, letter_forest, cell_cmp, simplex_cmp, letter_cmp}
use Rattle.cells.specs.Small.{small_forest, small_cmp}

-- what a forest is of: a cell, a cell of a dimension from its kind on, what is in a cell, and the same of small cells
pub data Reading : Type 0 where
  cell : Reading
  kind : ℤ → Reading
  within : Reading
  small : Reading
  small_kind : Reading
  small_within : Reading

-- behind the kind of a suspended cell stands a cell, behind each other kind numbers with cells below them
abbrev pub after : ℤ → Reading
after k = cond (int_eq k (pos 4)) cell within

abbrev pub small_after : ℤ → Reading
small_after k = cond (int_eq k (pos 0)) cell (cond (int_eq k (pos 2)) small small_within)

-- the dimension of a row and of the cell of a sphere
abbrev pub fed_dim : ℤ → ℤ → HashWrites
fed_dim k d = cond (int_eq k (pos 0)) (i64 d) (cond (int_eq k (pos 2)) (i64 d) [])

abbrev pub fed_by : Reading → Forest → HashWrites
fed_by r end = []
fed_by cell (item d b f) = fed_by (kind d) f
fed_by (kind d) (item k b f) = i8 k ++ (fed_dim k d ++ fed_by (after k) f)
fed_by within (item x b f) = i64 x ++ (fed_by cell b ++ fed_by within f)
fed_by small (item d b f) = fed_by small_kind f
fed_by small_kind (item k b f) = i8 k ++ fed_by (small_after k) f
fed_by small_within (item x b f) = fed_by small b ++ fed_by small_within f

abbrev pub fed_cell : Cell → HashWrites
fed_cell c = fed_by cell (forest c)

abbrev pub fed_simplex : Simplex → HashWrites
fed_simplex x = fed_by within (simplex_forest x)

abbrev pub fed_letter : Letter → HashWrites
fed_letter l = fed_by within (letter_forest l)

abbrev pub fed_small : SmallCell → HashWrites
fed_small c = fed_by small (small_forest c)

-- ---- what compares as equal feeds the same

equal : (o : Ordering) → is_eq o ≡ true → o ≡ Equal
equal Less h = absurd (true≢false (sym h))
equal Equal h = refl
equal Greater h = absurd (true≢false (sym h))

pub cell_fed : (c d : Cell) → eq_by_cmp cell_cmp c d ≡ true → fed_cell c ≡ fed_cell d
cell_fed c d h = ap (fed_by cell) (forest_is (forest c) (forest d) (equal (cell_cmp c d) h))

pub simplex_fed : (x y : Simplex) → eq_by_cmp simplex_cmp x y ≡ true → fed_simplex x ≡ fed_simplex y
simplex_fed x y h = ap (fed_by within) (forest_is (simplex_forest x) (simplex_forest y) (equal (simplex_cmp x y) h))

pub letter_fed : (l m : Letter) → eq_by_cmp letter_cmp l m ≡ true → fed_letter l ≡ fed_letter m
letter_fed l m h = ap (fed_by within) (forest_is (letter_forest l) (letter_forest m) (equal (letter_cmp l m) h))

pub small_fed : (c d : SmallCell) → eq_by_cmp small_cmp c d ≡ true → fed_small c ≡ fed_small d
small_fed c d h = ap (fed_by small) (forest_is (small_forest c) (small_forest d) (equal (small_cmp c d) h))
