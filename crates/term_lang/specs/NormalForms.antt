-- Normal forms: each simplex is in exactly one way a word of degeneracies before a non-degenerate simplex (Eilenberg and Zilber; May,
-- Simplicial Objects in Algebraic Topology, chapter I).
--
-- The words are kept as masks. First masks of any size, of tables; then the masks of the code, with bits below 32, of any space, where a
-- cell stands for the non-degenerate simplex.
--
--   in degree 4 the sphere of dimension 2 has the normal forms with the mask 15 before the vertex and with each mask of two places
--   below 4 before its cell
use Rattle.std.specs.Prelude.{◌≡◌, ℕ, ◌+◌, ◌<◌, ◌^◌, true, false, length, ◌↔◌}
use Rattle.simp_ops.specs.Bits.{bit, places, count_below}
use Rattle.spaces.specs.Simplicial.{is_degenerate}
use Rattle.spaces.specs.Tables.{Table, RowSimplex, InTable, row_at, table_set}
use Rattle.spaces.specs.Spaces.{Space, Plain, set_of}
use Rattle.spaces.specs.Orders.{ordered}
use Rattle.cells.specs.declared.cells.Cell.{Cell}
use Rattle.cells.specs.declared.cells.Simplex.{Simplex}
use Rattle.cells.specs.Dim.{dim_of, degree_of}
use Rattle.cells.specs.Order.{cell_cmp, simplex_cmp}
use Rattle.term_lang.specs.Forms.{cell_form, form}
use Rattle.term_lang.specs.Belongs.{IsCell, IsSimplex}
use Rattle.term_lang.specs.Quote.{quote_cell, quote}

-- a mask of any size before a row
pub record Masked : Type 0 where
  pub mask : ℕ
  pub row : ℕ

-- the word of the places below n of the mask before the row
abbrev pub masked_form : ℕ → Masked → RowSimplex
masked_form n s = (places n (bit s.mask), s.row)

module _ (t : Table) where
  -- the mask has bits below n alone, and the row's dimension and their number make n
  pub record IsMasked (n : ℕ) (s : Masked) : Type 0 where
    pub mask : s.mask < 2 ^ n
    pub row : s.row < length t
    pub degree : (row_at t s.row).dim + count_below n (bit s.mask) ≡ n

  -- masks before rows are one to one onto the simplices of degree n, and the non-degenerate ones are those with the mask 0
  pub record HasMaskedForms (n : ℕ) : Type 0 where
    pub simplex : (s : Masked) → IsMasked n s → InTable t n (masked_form n s)
    pub once : (s r : Masked) → IsMasked n s → IsMasked n r → masked_form n s ≡ masked_form n r → s ≡ r
    pub onto : (x : RowSimplex) → InTable t n x → (s : Masked) × IsMasked n s × (masked_form n s ≡ x)
    pub degenerate : (s : Masked) → IsMasked n s → (is_degenerate (table_set t) n (masked_form n s) ≡ true) ↔ (0 < s.mask)

-- The simplices of the code of degree n have that degree, they are one to one onto those of the space, the non-degenerate ones are those
-- with the mask 0, they are quoted back, and they stand in the order of the space.
pub record HasNormalForms (X : Space) (n : ℕ) : Type 0 where
  pub degree : (x : Simplex) → IsSimplex X n x → degree_of x ≡ n
  pub simplex : (x : Simplex) → IsSimplex X n x → (set_of X).In n (form x X)
  pub once : (x y : Simplex) → IsSimplex X n x → IsSimplex X n y → form x X ≡ form y X → x ≡ y
  pub onto : (y : Plain X) → (set_of X).In n y → IsSimplex X n (quote X n y)
  pub degenerate : (x : Simplex) → IsSimplex X n x → (is_degenerate (set_of X) n (form x X) ≡ true) ↔ (0 < x.degens.mask)
  pub quoted : (x : Simplex) → IsSimplex X n x → quote X n (form x X) ≡ x
  pub formed : (y : Plain X) → (set_of X).In n y → form (quote X n y) X ≡ y
  pub in_order : (x y : Simplex) → IsSimplex X n x → IsSimplex X n y → simplex_cmp x y ≡ (ordered X).cmp n (form x X) (form y X)

-- The cells of the code of dimension n have that dimension, and are one to one onto the non-degenerate simplices, as above.
pub record HasNormalCells (X : Space) (n : ℕ) : Type 0 where
  pub dimension : (c : Cell) → IsCell X n c → dim_of c ≡ n
  pub simplex : (c : Cell) → IsCell X n c → (set_of X).In n (cell_form c X)
  pub not_degenerate : (c : Cell) → IsCell X n c → is_degenerate (set_of X) n (cell_form c X) ≡ false
  pub once : (c d : Cell) → IsCell X n c → IsCell X n d → cell_form c X ≡ cell_form d X → c ≡ d
  pub onto : (y : Plain X) → (set_of X).In n y → is_degenerate (set_of X) n y ≡ false → IsCell X n (quote_cell X n y)
  pub quoted : (c : Cell) → IsCell X n c → quote_cell X n (cell_form c X) ≡ c
  pub formed : (y : Plain X) → (set_of X).In n y → is_degenerate (set_of X) n y ≡ false → cell_form (quote_cell X n y) X ≡ y
  pub in_order : (c d : Cell) → IsCell X n c → IsCell X n d → cell_cmp c d ≡ (ordered X).cmp n (cell_form c X) (cell_form d X)
