-- Up of a cell and of a simplex of the code in a suspension, and the faces of Up (May, Simplicial Objects in Algebraic Topology, chapter
-- VI, 27).
use Rattle.std.proofs.Common.{◌≡◌, ℕ, suc, ◌+◌, ◌-◌, ◌^◌, ◌<◌, ◌≤◌, ◌&&◌, cond, ◌⊎◌, inl, inr, Some, None, List, [], ◌∷◌, map, length, refl, sym, ◌∙◌, ap, subst, arith}
use Rattle.std.proofs.lemmas.Bool.{cases_eq}
use Rattle.simp_ops.specs.Words.{IsWord}
use Rattle.simp_ops.specs.Bits.{mask_word}
use Rattle.simp_ops.proofs.PlacesOf.{is_lt, word_below}
use Rattle.spaces.specs.Simplicial.{Simplicial, is_degenerate}
use Rattle.spaces.specs.Tables.{all_degeneracies}
use Rattle.spaces.specs.Suspensions.{up}
use Rattle.spaces.specs.Spaces.{Space, suspension, Plain, is_base, set_of}
use Rattle.spaces.specs.Allowed.{Admits}
use Rattle.spaces.proofs.SphereTable.{word-all_degeneracies, length-all_degeneracies}
use Rattle.cells.specs.declared.cells.Cell.{Cell}
use Rattle.cells.specs.declared.cells.Cell.TheVariants.{Base, Up}
use Rattle.cells.specs.declared.cells.Simplex.{Simplex}
use Rattle.cells.specs.Dim.{dim_of, degree_of}
use Rattle.term_lang.specs.Degenerated.{degenerated}
use Rattle.term_lang.specs.Forms.{cell_form, form}
use Rattle.term_lang.specs.Belongs.{is_cell, IsCell, IsSimplex}
use Rattle.term_lang.proofs.CellForms.{is_cell-Base, is_cell-Up}
use Rattle.term_lang.proofs.CodeForms.{mask_of_word, count_ones-mask}
use Rattle.term_lang.proofs.WordsAct.{degenerated_in}
use Rattle.oracle_iface.specs.KeyLaws.{HasCells}
use Rattle.kz1_group.proofs.Faced.{Worded, worded}
use Rattle.normal_forms.proofs.Suspended.{part_laws, test, not_base, face-up, degeneracy-up, form-up, form-base}
use Rattle.space_faces.proofs.MovedUp.{word-moved, length-moved}

-- a word of degeneracies before a cell is a simplex of the code
pub simplex_from : (X : Space) (n m : ℕ) (x : Simplex) → IsWord n (mask_word x.degens.mask) → m + length (mask_word x.degens.mask) ≡ n → IsCell X m x.cell → IsSimplex X n x
simplex_from X n m x word degree cell =
    let l : x.degens.mask < 2 ^ n = mask_of_word n x.degens.mask x.degens.below_32 word in
    let e : n - length (mask_word x.degens.mask) ≡ m = omega (arith, degree) in
    (λ i. is_lt x.degens.mask (2 ^ n) l i && is_cell x.cell X (e i)) ∙ cell

module _ (a : Space) (allowed : Admits (suspension a)) where
  abbrev A : Simplicial (Plain a)
  A = set_of a

  abbrev S : Space
  S = suspension a

  abbrev X : Simplicial (Plain (suspension a))
  X = set_of (suspension a)

  -- ---- words of degeneracies before Up and before the base

  words-up : (w : List ℕ) (y : Plain a) → degenerated X (map suc w) (Some (0, y)) ≡ Some (0, degenerated A w y)
  words-up [] y = refl
  words-up (j ∷ w) y = ap (X.degeneracy (suc j)) (words-up w y) ∙ degeneracy-up a allowed j (degenerated A w y)

  words-base : (w : List ℕ) → degenerated X w None ≡ None
  words-base [] = refl
  words-base (j ∷ w) = ap (X.degeneracy j) (words-base w)

  base-words : (m : ℕ) (w : List ℕ) (y : Plain a) → A.In m y → IsWord (m + length w) w → is_base a (degenerated A w y) ≡ is_base a y
  base-words m [] y is word = refl
  base-words m (j ∷ w) y is word =
      let l : j < m + suc (length w) = word.0 in
      let rest : IsWord (m + length w) w = word_below j (m + length w) w (omega (arith, l)) word.1 in
      (test a allowed).degeneracy_base (m + length w) j (degenerated A w y) (degenerated_in A (part_laws a allowed) m w y is rest) (omega (arith, l))
      ∙ base-words m w y is rest

  -- ---- the code's simplex of degree d for a plain one

  pub record Stands (d : ℕ) (z : Plain (suspension a)) (y : Simplex) : Type 0 where
    pub plain_is : form y (suspension a) ≡ z
    pub simplex : IsSimplex (suspension a) d y

  pub stands_base : (d : ℕ) (y : Simplex) → mask_word y.degens.mask ≡ all_degeneracies d → y.cell ≡ Base → Stands d None y
  stands_base d y e f =
      let count : length (mask_word y.degens.mask) ≡ d = ap length e ∙ length-all_degeneracies d in
      record {
        plain_is =
            (λ i. degenerated X (e i) (cell_form (f i) S)) ∙ ap (degenerated X (all_degeneracies d)) (form-base a allowed)
            ∙ words-base (all_degeneracies d);
        simplex =
            simplex_from S d 0 y (subst (IsWord d) (sym e) (word-all_degeneracies d)) (omega (arith, count))
            (ap (λ c. is_cell c S 0) f ∙ ap (λ t. t S 0) is_cell-Base);
      }

  -- Up of a simplex whose cell is not the vertex
  stands_up : (d m : ℕ) (x y : Simplex) → IsWord d (mask_word x.degens.mask) → m + length (mask_word x.degens.mask) ≡ d → IsCell a m x.cell → 0 < m
      → mask_word y.degens.mask ≡ map suc (mask_word x.degens.mask) → y.cell ≡ Up x.cell → Stands (suc d) (Some (0, form x a)) y
  stands_up d m x y word degree cell high e f =
      let w : List ℕ = mask_word x.degens.mask in
      let count : length (mask_word y.degens.mask) ≡ length w = ap length e ∙ length-moved w in
      let k : suc m - 1 ≡ m = omega arith in
      record {
        plain_is =
            (λ i. degenerated X (e i) (cell_form (f i) S)) ∙ ap (degenerated X (map suc w)) (form-up a allowed x.cell)
            ∙ words-up w (cell_form x.cell a);
        simplex =
            simplex_from S (suc d) (suc m) y (subst (IsWord (suc d)) (sym e) (word-moved d w word)) (omega (arith, count, degree))
            (ap (λ c. is_cell c S (suc m)) f ∙ ap (λ t. t S (suc m)) (is_cell-Up x.cell)
            ∙ (λ i. is_lt 1 (suc m) (omega (arith, high)) i && is_cell x.cell a (k i)) ∙ cell);
      }

  -- ---- Up of a simplex of degree d of the part

  module _ (cells : HasCells a) (d : ℕ) (most : d ≤ 32) (x : Simplex) (h : IsSimplex a d x) where
    k : Worded a d x
    k = worded a d x h

    abbrev w : List ℕ
    w = mask_word x.degens.mask

    abbrev c : Plain a
    c = cell_form x.cell a

    total : k.dim + length w ≡ d
    total = k.degree

    low : k.dim ≤ 32
    low = omega (arith, total, most)

    dim_is : dim_of x.cell ≡ k.dim
    dim_is = (cells k.dim low).dimension x.cell k.cell

    pub degree_is : degree_of x ≡ d
    degree_is = omega (arith, count_ones-mask x.degens.mask x.degens.below_32, dim_is, total, most)

    cell_in : A.In k.dim c
    cell_in = (cells k.dim low).simplex x.cell k.cell

    base_is : is_base a (form x a) ≡ is_base a c
    base_is = base-words k.dim w c cell_in (subst (λ m. IsWord m w) (sym total) k.is_word)

    up_base : dim_of x.cell ≡ 0 → up A (is_base a) 0 (form x a) ≡ None
    up_base e =
        ap (λ t. cond t None (Some (0, form x a))) (base_is ∙ (test a allowed).vertex c (subst (λ m. A.In m c) (sym dim_is ∙ e) cell_in))

    up_self : (dim_of x.cell ≡ 0 → ⊥) → up A (is_base a) 0 (form x a) ≡ Some (0, form x a)
    up_self some =
        let e : k.dim ≡ suc (k.dim - 1) = omega (arith, dim_is, some) in
        ap (λ t. cond t None (Some (0, form x a)))
        (base_is
        ∙ not_base a allowed (k.dim - 1) c (subst (λ m. A.In m c) e cell_in)
        (ap (λ m. is_degenerate A m c) (sym e) ∙ (cells k.dim low).not_degenerate x.cell k.cell))

    pub stands_raised : (y : Simplex)
        → (dim_of x.cell ≡ 0 → (mask_word y.degens.mask ≡ all_degeneracies (degree_of x + 1)) × (y.cell ≡ Base))
        → ((dim_of x.cell ≡ 0 → ⊥) → (mask_word y.degens.mask ≡ map suc (mask_word x.degens.mask)) × (y.cell ≡ Up x.cell))
        → Stands (suc d) (up A (is_base a) 0 (form x a)) y
    stands_raised y on_base on_up = by (cases_eq (dim_of x.cell) 0)
      where
        by : (dim_of x.cell ≡ 0) ⊎ (dim_of x.cell ≡ 0 → ⊥) → Stands (suc d) (up A (is_base a) 0 (form x a)) y
        by (inl e) =
            let m : degree_of x + 1 ≡ suc d = omega (arith, degree_is) in
            subst (λ z. Stands (suc d) z y) (sym (up_base e)) (stands_base (suc d) y ((on_base e).0 ∙ ap all_degeneracies m) (on_base e).1)
        by (inr e) =
            subst (λ z. Stands (suc d) z y) (sym (up_self e))
            (stands_up d k.dim x y k.is_word total k.cell (omega (arith, dim_is, e)) (on_up e).0 (on_up e).1)

  -- ---- the faces of Up of a cell

  pub face-first : (c : Cell) → X.face 0 (cell_form (Up c) (suspension a)) ≡ None
  face-first c = ap (X.face 0) (form-up a allowed c)

  pub face-later : (j : ℕ) (c : Cell) → X.face (suc j) (cell_form (Up c) (suspension a)) ≡ up A (is_base a) 0 (A.face j (cell_form c a))
  face-later j c = ap (X.face (suc j)) (form-up a allowed c) ∙ face-up a allowed j (cell_form c a)
