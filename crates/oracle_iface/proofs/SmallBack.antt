-- The small cell that the code's value for a small cell stands for is that small cell, where its rows are rows.
use Rattle.std.proofs.Common.{◌≡◌, ℕ, zero, suc, ◌<◌, List, [], ◌∷◌, map, refl, sym, ◌∙◌, ap, arith, ℤ, pos}
use Rattle.std.specs.Prelude.{Some, None, nat_abs}
use Rattle.std.specs.List.{AllByRecursion}
use Rattle.spaces.specs.Tables.{Table, sphere_rows}
use Rattle.spaces.specs.Spaces.{Space, table, sphere, product, suspension, kz1, bundle, loops, paths, kzm1, cyclic_bundle}
use Rattle.spaces.specs.SmallCells.{Small, row_dim}
use Rattle.cells.specs.declared.cells.Cell.{Cell}
use Rattle.cells.specs.declared.cells.Cell.TheVariants.{Row, Base, Ints}
use Rattle.cells.specs.declared.cells.SmallCell.{SmallCell, fold-roll-SmallCell, roll-SmallCell, map-SmallCell}
use Rattle.cells.specs.declared.cells.SmallCell.TheVariants.{One, Pair, Up, Word, rolls-One, rolls-Pair, rolls-Up, rolls-Word}
use Rattle.cells.specs.declared.cells.SmallCell.TheOpen.{SmallCell-F}
use Rattle.term_lang.specs.Forms.{cell_form}
use Rattle.term_lang.specs.Quote.{sphere_cell}
use Rattle.term_lang.proofs.CellForms.{form-Row, form-Base, form-Top, form-Ints}
use Rattle.oracle_iface.specs.SmallForms.{SmallForm, small_step, small_form, quote_small, quote_row, quote_residues}
use Rattle.oracle_iface.specs.KeyLaws.{IsProper}

-- ---- the form of each kind

rolled : (x : SmallCell-F SmallCell) → small_form (roll-SmallCell x) ≡ small_step (map-SmallCell SmallCell SmallForm small_form x)
unfolding small_form
rolled x = fold-roll-SmallCell SmallForm small_step x

small-One : (c : Cell) → small_form (One c) ≡ small_step (SmallCell-F.One c)
small-One c = ap small_form (sym (rolls-One c)) ∙ rolled (SmallCell-F.One c)

small-Pair : (x y : SmallCell) → small_form (Pair x y) ≡ small_step (SmallCell-F.Pair (small_form x) (small_form y))
small-Pair x y = ap small_form (sym (rolls-Pair x y)) ∙ rolled (SmallCell-F.Pair x y)

small-Up : (y : SmallCell) → small_form (Up y) ≡ small_step (SmallCell-F.Up (small_form y))
small-Up y = ap small_form (sym (rolls-Up y)) ∙ rolled (SmallCell-F.Up y)

small-Word : (w : List SmallCell) → small_form (Word w) ≡ small_step (SmallCell-F.Word (map small_form w))
small-Word w = ap small_form (sym (rolls-Word w)) ∙ rolled (SmallCell-F.Word w)

-- ---- the small cell that is quoted

residues-back : (l : List ℕ) → map nat_abs (map (λ k. pos k) l) ≡ l
residues-back [] = refl
residues-back (k ∷ l) = ap (λ v. k ∷ v) (residues-back l)

-- a row of the sphere of dimension m
sphere-back : (m r : ℕ) → 0 < m → r < 2 → (cell_form (sphere_cell (row_dim (sphere_rows m) r) ([], r)) (sphere m)).1 ≡ r
sphere-back zero r h l = absurd (omega arith)
sphere-back (suc m) zero h l = ap (λ f. (f (sphere (suc m))).1) form-Base
sphere-back (suc m) (suc zero) h l = ap (λ f. (f (sphere (suc m))).1) (form-Top (suc m))
sphere-back (suc m) (suc (suc r)) h l = absurd (omega arith)

word-back : (a : Space) → ((y : Small a) → IsProper a y → small_form (quote_small a y) a ≡ y) → (w : List (Small a)) → AllByRecursion (IsProper a) w
    → map (λ f. f a) (map small_form (map (quote_small a) w)) ≡ w
word-back a back [] h = refl
word-back a back (y ∷ w) h = λ i. back y h.0 i ∷ word-back a back w h.1 i

small-row : (t : Table) (r : ℕ) → small_form (quote_row (row_dim t r) r) (table t) ≡ r
small-row t r = ap (λ f. f (table t)) (small-One (Row (row_dim t r) r)) ∙ ap (λ f. (f (table t)).1) (form-Row (row_dim t r) r)

small-integers : (l : List ℤ) → small_form (One (Ints l)) kz1 ≡ l
small-integers l = ap (λ f. f kz1) (small-One (Ints l)) ∙ ap (λ f. f kz1) (form-Ints l)

small-residues : (m : ℕ) (l : List ℕ) → small_form (quote_residues l) (kzm1 m) ≡ l
small-residues m l = ap (λ f. f (kzm1 m)) (small-One (Ints (map (λ k. pos k) l))) ∙ ap (λ f. f (kzm1 m)) (form-Ints (map (λ k. pos k) l)) ∙ residues-back l

pub small-back : (a : Space) (y : Small a) → IsProper a y → small_form (quote_small a y) a ≡ y
small-back (table t) y h = small-row t y
small-back (sphere m) y h =
    ap (λ f. f (sphere m)) (small-One (sphere_cell (row_dim (sphere_rows m) y) ([], y))) ∙ sphere-back m y h.0 h.1
small-back (product a b) y h =
    ap (λ f. f (product a b)) (small-Pair (quote_small a y.0) (quote_small b y.1)) ∙ (λ i. (small-back a y.0 h.0 i, small-back b y.1 h.1 i))
small-back (suspension a) None h = ap (λ f. f (suspension a)) (small-One Base)
small-back (suspension a) (Some y) h = ap (λ f. f (suspension a)) (small-Up (quote_small a y)) ∙ ap Some (small-back a y h)
small-back kz1 y h = small-integers y
small-back (bundle t c) y h =
    ap (λ f. f (bundle t c)) (small-Pair (quote_row (row_dim t y.0) y.0) (One (Ints y.1)))
    ∙ (λ i. (small-row t y.0 i, small-integers y.1 i))
small-back (loops a) w h = ap (λ f. f (loops a)) (small-Word (map (quote_small a) w)) ∙ word-back a (small-back a) w h
small-back (paths a) y h =
    ap (λ f. f (paths a)) (small-Pair (quote_small a y.0) (Word (map (quote_small a) y.1)))
    ∙ (λ i. (small-back a y.0 h.0 i, (ap (λ f. f (loops a)) (small-Word (map (quote_small a) y.1)) ∙ word-back a (small-back a) y.1 h.1) i))
small-back (kzm1 m) y h = small-residues m y
small-back (cyclic_bundle t m c) y h =
    ap (λ f. f (cyclic_bundle t m c)) (small-Pair (quote_row (row_dim t y.0) y.0) (quote_residues y.1))
    ∙ (λ i. (small-row t y.0 i, small-residues m y.1 i))
