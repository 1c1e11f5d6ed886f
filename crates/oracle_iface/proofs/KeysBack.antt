-- The key of a question is read as that question.
use Rattle.std.proofs.Common.{◌≡◌, ℕ, ◌+◌, ◌≤◌, sym, ◌∙◌, ap, subst, arith}
use Rattle.fp_field.specs.declared.prime.Prime.{Prime}
use Rattle.fp_field.specs.Field.{number}
use Rattle.spaces.specs.Allowed.{IsAllowed}
use Rattle.spaces.specs.Tables.{Table}
use Rattle.spaces.specs.Spaces.{Space, Plain, table, sphere}
use Rattle.spaces.specs.SmallCells.{Small, small_degree}
use Rattle.cells.specs.Dim.{dim_of}
use Rattle.term_lang.specs.Forms.{cell_form}
use Rattle.term_lang.specs.Quote.{quote_cell}
use Rattle.term_lang.specs.NormalForms.{HasNormalCells}
use Rattle.values.specs.Asks.{Ask, basis, small_d, f, g, h, cycles}
use Rattle.values.specs.Ranks.{IsCell, IsValid, loopings, space_of as space_asked}
use Rattle.oracle_iface.specs.Keys.{key_of, IsValidKey}
use Rattle.oracle_iface.specs.SmallForms.{small_form, quote_small}
use Rattle.oracle_iface.specs.KeyLaws.{IsNamed, IsProper, HasCells, IsReadBack}
use Rattle.term_lang.proofs.TableForms.{table_cells}
use Rattle.term_lang.proofs.SphereForms.{sphere_cells}
use Rattle.oracle_iface.proofs.Named.{named-sphere}
use Rattle.oracle_iface.proofs.SmallBack.{small-back}
use Rattle.oracle_iface.proofs.ProperBases.{listed-proper}
use Rattle.oracle_iface.proofs.CellOrders.{dim-quoted, form-quoted}

module _ (p : Prime) (a : Space) (named : IsNamed a) where
  pub basis-back : (n : ℕ) → IsReadBack p (basis a n)
  basis-back n = ap (λ s. basis s n) named

  pub cycles-back : (n : ℕ) → IsReadBack p (cycles a n)
  cycles-back n = ap (λ s. cycles s n) named

  pub small_d-back : (y : Small a) → IsProper a y → IsReadBack p (small_d a y)
  small_d-back y is = ap (λ s. small_d s (small_form (quote_small a y) s)) named ∙ ap (small_d a) (small-back a y is)

  pub g-back : (y : Small a) → IsProper a y → IsReadBack p (g a y)
  g-back y is = ap (λ s. g s (small_form (quote_small a y) s)) named ∙ ap (g a) (small-back a y is)

  pub f-back : (n : ℕ) (x : Plain a) → HasNormalCells a n → IsCell a n x → IsReadBack p (f a n x)
  f-back n x cells is =
      let c = quote_cell a n x in
      ap (λ s. f s (dim_of c) (cell_form c s)) named ∙ (λ i. f a (dim-quoted a n cells x is i) (form-quoted a n cells x is i))

  pub h-back : (n : ℕ) (x : Plain a) → HasNormalCells a n → IsCell a n x → IsReadBack p (h a n x)
  h-back n x cells is =
      let c = quote_cell a n x in
      ap (λ s. h s (dim_of c) (cell_form c s)) named ∙ (λ i. h a (dim-quoted a n cells x is i) (form-quoted a n cells x is i))

-- at a valid small cell
pub small_d-valid_back : (p : Prime) (a : Space) (y : Small a) → IsNamed a → IsValid (number p) (small_d a y) → IsReadBack p (small_d a y)
small_d-valid_back p a y named is = small_d-back p a named y (listed-proper (number p) a (small_degree a y) y is.0.0 is.1)

pub g-valid_back : (p : Prime) (a : Space) (y : Small a) → IsNamed a → IsValid (number p) (g a y) → IsReadBack p (g a y)
g-valid_back p a y named is = g-back p a named y (listed-proper (number p) a (small_degree a y) y is.0.0 is.1)

within_masks : (n l : ℕ) → n + l ≤ 24 → n ≤ 32
within_masks n l e = omega arith

-- a valid question of a named space whose cells the code has
pub valid-back : (p : Prime) (q : Ask) → IsNamed (space_asked q) → HasCells (space_asked q) → IsValid (number p) q → IsReadBack p q
valid-back p (basis a n) named cells is = basis-back p a named n
valid-back p (small_d a y) named cells is = small_d-valid_back p a y named is
valid-back p (f a n x) named cells is = f-back p a named n x (cells n (within_masks n (loopings a) is.2)) is.1
valid-back p (g a y) named cells is = g-valid_back p a y named is
valid-back p (h a n x) named cells is = h-back p a named n x (cells n (within_masks n (loopings a) is.2)) is.1
valid-back p (cycles a n) named cells is = cycles-back p a named n

-- for tables, as far as they are named, and for spheres
pub table-valid-back : (p : Prime) (q : Ask) (t : Table) → space_asked q ≡ table t → IsNamed (table t) → IsValid (number p) q → IsReadBack p q
table-valid-back p q t e named is =
    let allowed : IsAllowed (table t) = subst IsAllowed e is.0 in
    valid-back p q (subst IsNamed (sym e) named) (subst HasCells (sym e) (table_cells t allowed.0)) is

pub sphere-valid-back : (p : Prime) (q : Ask) (m : ℕ) → space_asked q ≡ sphere m → IsValid (number p) q → IsReadBack p q
sphere-valid-back p q m e is =
    let allowed : IsAllowed (sphere m) = subst IsAllowed e is.0 in
    valid-back p q (subst IsNamed (sym e) (named-sphere m)) (subst HasCells (sym e) (sphere_cells m allowed.0.0)) is

-- a question that is read back and valid has a valid key
pub valid-key : (p : Prime) (q : Ask) → IsReadBack p q → IsValid (number p) q → IsValidKey (key_of p q)
valid-key p q back is = record { question = subst (IsValid (number p)) (sym back) is; key_is = ap (key_of p) (sym back) }
