-- The degree of the code's value for a small cell is the degree of the small cell, below the greatest degree of the code.
use Rattle.std.proofs.Common.{◌≡◌, ℕ, zero, suc, ◌+◌, ◌-◌, ◌≤◌, List, [], ◌∷◌, map, length, refl, ◌∙◌, ap, arith, ℤ, pos}
use Rattle.std.specs.Prelude.{Some, None}
use Rattle.spaces.specs.Tables.{sphere_rows}
use Rattle.spaces.specs.Spaces.{Space, table, sphere, product, suspension, kz1, bundle, loops, paths, kzm1, cyclic_bundle}
use Rattle.spaces.specs.SmallCells.{Small, small_degree, word_degree, row_dim}
use Rattle.cells.specs.declared.cells.Cell.TheVariants.{Row, Base, Ints}
use Rattle.cells.specs.declared.cells.SmallCell.{SmallCell}
use Rattle.cells.specs.declared.cells.SmallCell.TheVariants.{One, Pair, Word}
use Rattle.cells.specs.Dim.{dim_of, capped}
use Rattle.cells.specs.Small.{degree_of_small, less_one_sum}
use Rattle.cells.proofs.Dimensions.{dim-Row, dim-Base, dim-Top, dim-Ints}
use Rattle.cells.proofs.SmallForms.{degree-One, degree-Pair, degree-Up, degree-Word}
use Rattle.term_lang.specs.Quote.{sphere_cell}
use Rattle.oracle_iface.specs.SmallForms.{quote_small, quote_row, quote_residues}
use Rattle.oracle_iface.specs.KeyLaws.{IsCounted}

capped-is : (n : ℕ) → n ≤ 4294967295 → capped n ≡ n
capped-is n h = omega arith

pub dim-sphere_cell : (n r : ℕ) → dim_of (sphere_cell n ([], r)) ≡ n
dim-sphere_cell zero r = dim-Base
dim-sphere_cell (suc n) r = dim-Top (suc n)

-- ---- how far the parts are below the greatest degree

pub counted-left : (a b : Space) (y : Small (product a b)) → IsCounted (product a b) y → IsCounted a y.0
counted-left a b y h = omega (arith, h)

pub counted-right : (a b : Space) (y : Small (product a b)) → IsCounted (product a b) y → IsCounted b y.1
counted-right a b y h = omega (arith, h)

pub counted-below : (a : Space) (y : Small a) → IsCounted (suspension a) (Some y) → IsCounted a y
counted-below a y h = omega (arith, h)

pub counted-first : (a : Space) (y : Small a) (w : List (Small a)) → IsCounted (loops a) (y ∷ w) → IsCounted a y
counted-first a y w h = omega (arith, h)

pub counted-rest : (a : Space) (y : Small a) (w : List (Small a)) → IsCounted (loops a) (y ∷ w) → IsCounted (loops a) w
counted-rest a y w h = omega (arith, h)

pub counted-base : (a : Space) (y : Small (paths a)) → IsCounted (paths a) y → IsCounted a y.0
counted-base a y h = omega (arith, h)

pub counted-fibre : (a : Space) (y : Small (paths a)) → IsCounted (paths a) y → IsCounted (loops a) y.1
counted-fibre a y h = omega (arith, h)

-- ---- degrees

pub degree-row : (d r : ℕ) → degree_of_small (quote_row d r) ≡ d
degree-row d r = degree-One (Row d r) ∙ dim-Row d r

pub degree-integers : (l : List ℤ) → length l ≤ 4294967295 → degree_of_small (One (Ints l)) ≡ length l
degree-integers l h = degree-One (Ints l) ∙ dim-Ints l ∙ capped-is (length l) h

pub length-pos : (l : List ℕ) → length (map (λ k. pos k) l) ≡ length l
length-pos [] = refl
length-pos (k ∷ l) = ap (λ n. suc n) (length-pos l)

pub degree-residues : (l : List ℕ) → length l ≤ 4294967295 → degree_of_small (quote_residues l) ≡ length l
degree-residues l h =
    let e : length (map (λ k. pos k) l) ≡ length l = length-pos l in
    degree-integers (map (λ k. pos k) l) (omega (arith, e)) ∙ e

pair-degree : (x y : SmallCell) (d e : ℕ) → degree_of_small x ≡ d → degree_of_small y ≡ e → d + e ≤ 4294967295 → degree_of_small (Pair x y) ≡ d + e
pair-degree x y d e f g h = degree-Pair x y ∙ (λ i. capped (f i + g i)) ∙ capped-is (d + e) h

module _ (a : Space) (degree : (y : Small a) → IsCounted a y → degree_of_small (quote_small a y) ≡ small_degree a y) where
  sum-letters : (w : List (Small a)) → IsCounted (loops a) w → less_one_sum (map degree_of_small (map (quote_small a) w)) ≡ word_degree (small_degree a) w
  sum-letters [] h = refl
  sum-letters (y ∷ w) h = λ i. (degree y (counted-first a y w h) i - 1) + sum-letters w (counted-rest a y w h) i

  word-small : (w : List (Small a)) → IsCounted (loops a) w → degree_of_small (Word (map (quote_small a) w)) ≡ word_degree (small_degree a) w
  word-small w h =
      degree-Word (map (quote_small a) w) ∙ ap capped (sum-letters w h) ∙ capped-is (word_degree (small_degree a) w) (omega (arith, h))

pub degree-small : (a : Space) (y : Small a) → IsCounted a y → degree_of_small (quote_small a y) ≡ small_degree a y
degree-small (table t) y h = degree-row (row_dim t y) y
degree-small (sphere m) y h =
    degree-One (sphere_cell (row_dim (sphere_rows m) y) ([], y)) ∙ dim-sphere_cell (row_dim (sphere_rows m) y) y
degree-small (product a b) y h =
    pair-degree (quote_small a y.0) (quote_small b y.1) (small_degree a y.0) (small_degree b y.1) (degree-small a y.0 (counted-left a b y h))
    (degree-small b y.1 (counted-right a b y h)) (omega (arith, h))
degree-small (suspension a) None h = degree-One Base ∙ dim-Base
degree-small (suspension a) (Some y) h =
    let e : small_degree a y + 1 ≡ suc (small_degree a y) = omega arith in
    degree-Up (quote_small a y) ∙ ap (λ n. capped (n + 1)) (degree-small a y (counted-below a y h)) ∙ capped-is (small_degree a y + 1) (omega (arith, h)) ∙ e
degree-small kz1 y h = degree-integers y (omega (arith, h))
degree-small (bundle t c) y h =
    pair-degree (quote_row (row_dim t y.0) y.0) (One (Ints y.1)) (row_dim t y.0) (length y.1) (degree-row (row_dim t y.0) y.0)
    (degree-integers y.1 (omega (arith, h))) (omega (arith, h))
degree-small (loops a) w h = word-small a (degree-small a) w h
degree-small (paths a) y h =
    pair-degree (quote_small a y.0) (Word (map (quote_small a) y.1)) (small_degree a y.0) (word_degree (small_degree a) y.1)
    (degree-small a y.0 (counted-base a y h)) (word-small a (degree-small a) y.1 (counted-fibre a y h)) (omega (arith, h))
degree-small (kzm1 m) y h = degree-residues y (omega (arith, h))
degree-small (cyclic_bundle t m c) y h =
    pair-degree (quote_row (row_dim t y.0) y.0) (quote_residues y.1) (row_dim t y.0) (length y.1) (degree-row (row_dim t y.0) y.0)
    (degree-residues y.1 (omega (arith, h))) (omega (arith, h))
