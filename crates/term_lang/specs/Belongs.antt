-- Which cells and simplices of the code belong to a space.
--
-- A simplex of degree n is a mask with bits below n alone and a cell of the space whose dimension and the number of the bits make n (May,
-- Simplicial Objects in Algebraic Topology, chapter I, on the normal form; Kenzo documentation, 1999, on geometric simplices). The cells:
--
--   table            Row(dim, row) for each row, with its dimension
--   sphere           Base of dimension 0, and Top with the sphere's dimension
--   product, bundle, path space    Pair of two simplices of one degree with no common place in their masks, of base and fibre
--   suspension       Base, and Up of each cell of positive dimension, one dimension above it
--   K(Z,1)           Ints with as many integers as the dimension, none 0; for K(Z/m,1) they are from 1 to m - 1
--   loop group       Word of letters, each a simplex of one degree more without place 0; no letter stands beside its inverse, and no place
--                    above 0 is common to all letters; the empty word has dimension 0 alone
--
-- The fibre of a bundle is K(Z,1) or K(Z/m,1), that of a path space is the loop group.
--
--   of the sphere of dimension 2, the mask 5 before Top(2) is a simplex of degree 4 and of no other
use Rattle.std.specs.Prelude.{◌≡◌, ℕ, zero, suc, ◌-◌, ◌^◌, Bool, true, false, not, ◌&&◌, ◌||◌, ◌==◌, nat_lt, List, [], ◌∷◌, length, ℤ, pos, negsuc, bit_and, cond}
use Rattle.std.specs.List.{list_all}
use Rattle.std.specs.Ordering.{is_eq}
use Rattle.simp_ops.specs.Bits.{bit, mask_word}
use Rattle.spaces.specs.Tables.{row_at}
use Rattle.spaces.specs.Spaces.{Space, table, sphere, product, suspension, kz1, bundle, loops, paths, kzm1, cyclic_bundle}
use Rattle.cells.specs.declared.cells.Cell.{Cell, para-Cell}
use Rattle.cells.specs.declared.cells.Cell.TheOpen.{Cell-F, Letter-F, Simplex-F}
use Rattle.cells.specs.declared.cells.Letter.{Letter}
use Rattle.cells.specs.declared.cells.Simplex.{Simplex}
use Rattle.cells.specs.Order.{simplex_cmp}

-- a test of a space and a degree
abbrev pub Test : Type 0
Test = Space → ℕ → Bool

-- bits below n alone, and the cell has the dimension that is left
abbrev pub is_before : Simplex → Test → Test
is_before x cell X n = nat_lt x.degens.mask (2 ^ n) && cell X (n - length (mask_word x.degens.mask))

-- no place of both masks
abbrev pub are_apart : Simplex → Simplex → Bool
are_apart x y = bit_and x.degens.mask y.degens.mask == 0

-- two simplices of degree n, of base and fibre
abbrev pub is_pair : Simplex × Test → Simplex × Test → Space → Space → ℕ → Bool
is_pair x y a b n = is_before x.0 x.1 a n && is_before y.0 y.1 b n && are_apart x.0 y.0

abbrev pub is_zero : ℤ → Bool
is_zero (pos n) = n == 0
is_zero (negsuc n) = false

-- from 1 to m - 1
abbrev pub is_residue : ℕ → ℤ → Bool
is_residue m (pos n) = nat_lt 0 n && nat_lt n m
is_residue m (negsuc n) = false

-- one is the inverse of the other
abbrev pub are_inverse : Letter → Letter → Bool
are_inverse l m = cond l.inverse (not m.inverse) m.inverse && is_eq (simplex_cmp l.simplex m.simplex)

-- no letter stands beside its inverse
abbrev pub is_reduced : List Letter → Bool
is_reduced [] = true
is_reduced (l ∷ []) = true
is_reduced (l ∷ (m ∷ w)) = not (are_inverse l m) && is_reduced (m ∷ w)

-- a place from 1 to n in the masks of all letters
abbrev pub shares_place : ℕ → List Letter → Bool
shares_place zero w = false
shares_place (suc n) w = shares_place n w || list_all (λ l. bit l.simplex.degens.mask (suc n)) w

-- each letter is a simplex of degree n + 1 without place 0
abbrev pub are_letters : Space → ℕ → List (Letter × Test) → Bool
are_letters a n w = list_all (λ l. is_before l.0.simplex l.1 a (suc n) && not (bit l.0.simplex.degens.mask 0)) w

abbrev pub letters_of : List (Letter × Test) → List Letter
letters_of [] = []
letters_of (l ∷ w) = l.0 ∷ letters_of w

abbrev pub is_word : Space → ℕ → List (Letter × Test) → Bool
is_word a n w = are_letters a n w && is_reduced (letters_of w) && not (shares_place n (letters_of w))

-- each part of a cell comes with its test; that of a letter or a simplex is the test of its cell
abbrev pub belongs_step : Cell-F (Cell × Test) (Letter × Test) (Simplex × Test) → Test
belongs_step (Cell-F.Row dim row) (table t) n = nat_lt row (length t) && (dim == (row_at t row).dim) && (n == dim)
belongs_step Cell-F.Base (sphere m) n = n == 0
belongs_step (Cell-F.Top k) (sphere m) n = (k == m) && (n == m)
belongs_step (Cell-F.Pair x y) (product a b) n = is_pair x y a b n
belongs_step (Cell-F.Pair x y) (bundle t c) n = is_pair x y (table t) kz1 n
belongs_step (Cell-F.Pair x y) (paths a) n = is_pair x y a (loops a) n
belongs_step (Cell-F.Pair x y) (cyclic_bundle t m c) n = is_pair x y (table t) (kzm1 m) n
belongs_step Cell-F.Base (suspension a) n = n == 0
belongs_step (Cell-F.Up c) (suspension a) n = nat_lt 1 n && c.1 a (n - 1)
belongs_step (Cell-F.Ints list) kz1 n = (length list == n) && list_all (λ k. not (is_zero k)) list
belongs_step (Cell-F.Ints list) (kzm1 m) n = (length list == n) && list_all (is_residue m) list
belongs_step (Cell-F.Word letters) (loops a) n = is_word a n letters
belongs_step c X n = false

abbrev pub letter_step : Letter-F (Cell × Test) (Letter × Test) (Simplex × Test) → Test
letter_step l = l.simplex.1

abbrev pub simplex_step : Simplex-F (Cell × Test) (Letter × Test) (Simplex × Test) → Test
simplex_step x = x.cell.1

-- a cell of the space, of this dimension
unfoldable pub is_cell : Cell → Test
is_cell c = para-Cell Test Test Test belongs_step letter_step simplex_step c

-- a simplex of the space, of this degree
abbrev pub is_simplex : Simplex → Test
is_simplex x = is_before x (is_cell x.cell)

abbrev pub IsCell : Space → ℕ → Cell → Type 0
IsCell X n c = is_cell c X n ≡ true

abbrev pub IsSimplex : Space → ℕ → Simplex → Type 0
IsSimplex X n x = is_simplex x X n ≡ true
