-- The orders of cells, letters and simplices.
--
-- Simplices are compared by their masks as numbers, then by their cells; letters with a letter before an inverse, then by their
-- simplices; cells by dimension, then by kind in the order of the enum, then by what they hold: rows by number, pairs by the left
-- and then the right simplex, suspended cells by the cell below, lists of integers by length and then by the first difference, words
-- by the number of letters and then by the first different letter. (Each space of Kenzo has such an order of its generators: Kenzo
-- documentation, 1999, chain complexes and simplicial sets; this one is this project's own.)
--
-- Each value goes to the forest of all that is compared, in this order, and forests are compared. `within_cmp` says the comparison
-- within a kind again in plain words; that both agree is a law of this crate. For example the torus cell of s_0 a and s_1 b is less
-- than that of s_1 a and s_0 b, since its left mask 1 is less than 2.
use Rattle.std.specs.Prelude.{ℕ, cond, ◌+◌, List, [], ◌∷◌, ℤ, pos, length}
use Rattle.std.specs.Ordering.{on, nat_cmp, int_cmp, ordering_then}
use Rattle.std.specs.Cmp.Lexicographic.{slice_cmp}
use Rattle.std.specs.declared.cmp.Ordering.{Ordering}
use Rattle.std.specs.declared.cmp.Ordering.TheVariants.{Equal}
use Rattle.cells.specs.declared.cells.Cell.{Cell, para-Cell, out-Cell}
use Rattle.cells.specs.declared.cells.Cell.TheOpen.{Cell-F, Letter-F, Simplex-F}
use Rattle.cells.specs.declared.cells.Letter.{Letter}
use Rattle.cells.specs.declared.cells.Simplex.{Simplex}
use Rattle.cells.specs.Forests.{Forest, end, item, forest_cmp}
use Rattle.cells.specs.Dim.{dim_of, degree_of, capped, first_less_one}

-- a number before a forest
abbrev pub number : ℕ → Forest → Forest
number n rest = item (pos n) end rest

-- a simplex is its mask, with its cell below it
abbrev pub simplex_before : Simplex → Forest → Forest → Forest
simplex_before x cell rest = item (pos x.degens.mask) cell rest

abbrev pub ints_forest : List ℤ → Forest
ints_forest [] = end
ints_forest (a ∷ l) = item a end (ints_forest l)

abbrev pub letters_forest : List (Letter × Forest) → Forest
letters_forest [] = end
letters_forest (l ∷ w) = number (cond l.0.inverse 1 0) (simplex_before l.0.simplex l.1 (letters_forest w))

abbrev pub word_dim : List (Letter × Forest) → ℕ
word_dim [] = 0
word_dim (l ∷ w) = first_less_one (degree_of l.0.simplex ∷ [])

-- the dimension, the kind, and what is compared within the kind; each part of a cell comes with its forest
abbrev pub forest_step : Cell-F (Cell × Forest) (Letter × Forest) (Simplex × Forest) → Forest
forest_step (Cell-F.Row dim row) = number dim (number 0 (number row end))
forest_step Cell-F.Base = number 0 (number 1 end)
forest_step (Cell-F.Top n) = number n (number 2 end)
forest_step (Cell-F.Pair a b) = number (degree_of a.0) (number 3 (simplex_before a.0 a.1 (simplex_before b.0 b.1 end)))
forest_step (Cell-F.Up c) = number (capped (dim_of c.0 + 1)) (number 4 c.1)
forest_step (Cell-F.Ints list) = number (capped (length list)) (number 5 (number (length list) (ints_forest list)))
forest_step (Cell-F.Word letters) = number (word_dim letters) (number 6 (number (length letters) (letters_forest letters)))

-- the forest of the cell of a letter or a simplex
abbrev pub letter_step : Letter-F (Cell × Forest) (Letter × Forest) (Simplex × Forest) → Forest
letter_step l = l.simplex.1

abbrev pub simplex_step : Simplex-F (Cell × Forest) (Letter × Forest) (Simplex × Forest) → Forest
simplex_step x = x.cell.1

unfoldable pub forest : Cell → Forest
forest c = para-Cell Forest Forest Forest forest_step letter_step simplex_step c

abbrev pub simplex_forest : Simplex → Forest
simplex_forest x = simplex_before x (forest x.cell) end

abbrev pub letter_forest : Letter → Forest
letter_forest l = number (cond l.inverse 1 0) (simplex_forest l.simplex)

abbrev pub cell_cmp : Cell → Cell → Ordering
cell_cmp = on forest forest_cmp

abbrev pub simplex_cmp : Simplex → Simplex → Ordering
simplex_cmp = on simplex_forest forest_cmp

abbrev pub letter_cmp : Letter → Letter → Ordering
letter_cmp = on letter_forest forest_cmp

-- the place of the variant
abbrev pub kind_in : {A B C : Type 0} → Cell-F A B C → ℕ
kind_in (Cell-F.Row dim row) = 0
kind_in Cell-F.Base = 1
kind_in (Cell-F.Top n) = 2
kind_in (Cell-F.Pair a b) = 3
kind_in (Cell-F.Up c) = 4
kind_in (Cell-F.Ints list) = 5
kind_in (Cell-F.Word letters) = 6

abbrev pub kind_of : Cell → ℕ
kind_of c = kind_in (out-Cell c)

-- by dimension, then by kind
abbrev pub kinds_cmp : Cell → Cell → Ordering
kinds_cmp c d = ordering_then (nat_cmp (dim_of c) (dim_of d)) (nat_cmp (kind_of c) (kind_of d))

-- how two cells of one dimension and one kind compare
abbrev pub within : Cell-F Cell Letter Simplex → Cell-F Cell Letter Simplex → Ordering
within (Cell-F.Row d a) (Cell-F.Row e b) = nat_cmp a b
within (Cell-F.Pair a x) (Cell-F.Pair b y) = ordering_then (simplex_cmp a b) (simplex_cmp x y)
within (Cell-F.Up c) (Cell-F.Up d) = cell_cmp c d
within (Cell-F.Ints a) (Cell-F.Ints b) = ordering_then (nat_cmp (length a) (length b)) (slice_cmp int_cmp a b)
within (Cell-F.Word v) (Cell-F.Word w) = ordering_then (nat_cmp (length v) (length w)) (slice_cmp letter_cmp v w)
within y z = Equal

abbrev pub within_cmp : Cell → Cell → Ordering
within_cmp c d = within (out-Cell c) (out-Cell d)
