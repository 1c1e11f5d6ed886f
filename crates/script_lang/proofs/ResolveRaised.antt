-- Up of a simplex of the part of a suspension, in its normal form.
use Rattle.std.proofs.Common.{◌≡◌, ℕ, zero, suc, ◌+◌, ◌-◌, ◌<◌, ◌≤◌, Bool, true, false, cond, ◌&&◌, ◌⊎◌, inl, inr, List, [], ◌∷◌, map, length, Option, Some, None, refl, sym, ◌∙◌, ap, subst, arith}
use Rattle.std.proofs.lemmas.Bool.{cases_lt}
use Rattle.simp_ops.specs.Words.{IsWord, degeneracy_word}
use Rattle.simp_ops.specs.Bits.{mask_word}
use Rattle.simp_ops.proofs.PlacesOf.{is_lt, is_eq, not_eq, word_below}
use Rattle.simp_ops.proofs.OperatorLaws.{degeneracy_in}
use Rattle.spaces.specs.Simplicial.{Simplicial, is_degenerate}
use Rattle.spaces.specs.Spaces.{Space, suspension, Plain, is_base, set_of}
use Rattle.spaces.specs.Allowed.{Admits}
use Rattle.spaces.proofs.WordLaws.{length-degeneracy}
use Rattle.cells.specs.declared.cells.Cell.TheVariants.{Base, Up}
use Rattle.cells.specs.declared.cells.Simplex.{Simplex}
use Rattle.cells.specs.Dim.{dim_of}
use Rattle.term_lang.specs.Degenerated.{degenerated}
use Rattle.term_lang.specs.Forms.{cell_form, form}
use Rattle.term_lang.specs.Belongs.{is_cell, IsCell, IsSimplex}
use Rattle.term_lang.specs.NormalForms.{HasNormalCells}
use Rattle.term_lang.proofs.CellForms.{is_cell-Base, is_cell-Up}
use Rattle.term_lang.proofs.WordsAct.{degenerated_in}
use Rattle.normal_forms.specs.Built.{IsBuilt}
use Rattle.normal_forms.proofs.BuiltForms.{cells_of}
use Rattle.normal_forms.proofs.Suspended.{part_laws, test, not_base, degeneracy-up, form-up, form-base}
use Rattle.script_lang.specs.declared.simplices.SimplexText.{SimplexText}
use Rattle.script_lang.specs.declared.simplices.BodyText.{BodyText}
use Rattle.script_lang.specs.declared.simplices.BodyText.TheVariants.{Star, Up as UpText}
use Rattle.script_lang.specs.Meaning.{mapped, meaning, when}
use Rattle.script_lang.specs.Resolved.{IsFound, body_meaning, bare_simplex}
use Rattle.script_lang.proofs.ResolveMeanings.{meaning-Star, meaning-Up}
use Rattle.script_lang.proofs.ResolveFound.{Parts, parts_of, simplex_is, bare_is, bare_form}
use Rattle.script_lang.proofs.ResolveShifts.{is_shifted, length-shifted}

module _ (a : Space) (allowed : Admits (suspension a)) where
  abbrev A : Simplicial (Plain a)
  A = set_of a

  abbrev X : Simplicial (Option (ℕ × Plain a))
  X = set_of (suspension a)

  -- words before the base are the base, and words that are moved up go through Up
  before_base : (w : List ℕ) → degenerated X w None ≡ None
  before_base [] = refl
  before_base (j ∷ w) = ap (X.degeneracy j) (before_base w)

  before_up : (w : List ℕ) (y : Plain a) → degenerated X (map suc w) (Some (0, y)) ≡ Some (0, degenerated A w y)
  before_up [] y = refl
  before_up (j ∷ w) y = ap (X.degeneracy (suc j)) (before_up w y) ∙ degeneracy-up a allowed j (degenerated A w y)

  base_form : (y : Simplex) → y.cell ≡ Base → form y (suspension a) ≡ None
  base_form y e =
      (λ i. degenerated X (mask_word y.degens.mask) (cell_form (e i) (suspension a))) ∙ ap (degenerated X (mask_word y.degens.mask)) (form-base a allowed)
      ∙ before_base (mask_word y.degens.mask)

  up_form : (x y : Simplex) → y.cell ≡ Up x.cell → mask_word y.degens.mask ≡ map suc (mask_word x.degens.mask) → form y (suspension a) ≡ Some (0, form x a)
  up_form x y e m =
      (λ i. degenerated X (m i) (cell_form (e i) (suspension a))) ∙ ap (degenerated X (map suc (mask_word x.degens.mask))) (form-up a allowed x.cell)
      ∙ before_up (mask_word x.degens.mask) (cell_form x.cell a)

  raise_to : (z : Plain a) (t : Bool) (v : Option (ℕ × Plain a)) → is_base a z ≡ t → cond t None (Some (0, z)) ≡ v
      → ◌≡◌ {A = Option (Option (ℕ × Plain a))} (Some (cond (is_base a z) None (Some (0, z)))) (Some v)
  raise_to z t v e f = ap (λ b. Some (cond b None (Some (0, z)))) e ∙ ap (λ u. Some u) f

  base_cell : (y : Simplex) (k : ℕ) → y.cell ≡ Base → k ≡ 0 → is_cell y.cell (suspension a) k ≡ true
  base_cell y k e z = (λ i. is_cell (e i) (suspension a) (z i)) ∙ ap (λ f. f (suspension a) 0) is_cell-Base

  up_cell : (x y : Simplex) (k j : ℕ) → y.cell ≡ Up x.cell → k ≡ suc (suc j) → IsCell a (suc j) x.cell → is_cell y.cell (suspension a) k ≡ true
  up_cell x y k j e z h =
      let back : suc (suc j) - 1 ≡ suc j = omega arith in
      (λ i. is_cell (e i) (suspension a) (z i)) ∙ ap (λ f. f (suspension a) (suc (suc j))) (is_cell-Up x.cell)
      ∙ (λ i. is_lt 1 (suc (suc j)) (omega arith) i && is_cell x.cell a (back i)) ∙ h

  -- a degeneracy is one of the vertex where the simplex is
  base_kept : (n : ℕ) (w : List ℕ) (y : Plain a) → A.In n y → IsWord (n + length w) w → is_base a (degenerated A w y) ≡ is_base a y
  base_kept n [] y is word = refl
  base_kept n (j ∷ w) y is word =
      let l : j < n + suc (length w) = word.0 in
      let rest : IsWord (n + length w) w = word_below j (n + length w) w (omega (arith, l)) word.1 in
      (test a allowed).degeneracy_base (n + length w) j (degenerated A w y) (degenerated_in A (part_laws a allowed) n w y is rest) (omega (arith, l))
      ∙ base_kept n w y is rest

  -- a body `*` means the base in degree 0
  pub base_found : (body : BodyText) (n : ℕ) → body ≡ Star → n ≡ 0 → IsFound (suspension a) n (body_meaning body (suspension a) n) (Some (bare_simplex Base))
  base_found body n e z =
      let c : is_cell Base (suspension a) n ≡ true = ap (λ f. f (suspension a) n) is_cell-Base ∙ is_eq n 0 z in (
        ap (λ b. body_meaning b (suspension a) n) e ∙ ap (λ f. f (suspension a) n) meaning-Star ∙ ap (λ b. when {A = Option (ℕ × Plain a)} b None) (is_eq n 0 z)
            ∙ ap (λ y. Some y) (sym (bare_form (suspension a) Base ∙ form-base a allowed)),
        bare_is (suspension a) n Base c,
      )

  module _ (built : IsBuilt a) (n : ℕ) (most : n ≤ 32) (x : Simplex) (is : IsSimplex a n x) where
    abbrev w : List ℕ
    w = mask_word x.degens.mask

    abbrev c : Plain a
    c = cell_form x.cell a

    parts : Parts a n x
    parts = parts_of a n x is

    normal : HasNormalCells a (n - length w)
    normal = cells_of a allowed.0 built (n - length w) (omega (arith, most))

    dim : dim_of x.cell ≡ n - length w
    dim = normal.dimension x.cell parts.cell

    cell_in : A.In (n - length w) c
    cell_in = normal.simplex x.cell parts.cell

    base_of_cell : is_base a (form x a) ≡ is_base a c
    base_of_cell =
        let l : length w ≤ n = parts.short in
        let e : n ≡ n - length w + length w = omega (arith, l) in
        base_kept (n - length w) w c cell_in (subst (λ m. IsWord m w) e parts.word)

    -- the degenerate base
    pub raised_base : dim_of x.cell ≡ 0 → (y : Simplex) → y.cell ≡ Base → mask_word y.degens.mask ≡ degeneracy_word 0 w
        → IsFound (suspension a) (suc n) (Some (cond (is_base a (form x a)) None (Some (0, form x a)))) (Some y)
    raised_base z y e m =
        let d : n - length w ≡ 0 = sym dim ∙ z in
        let b : is_base a (form x a) ≡ true = base_of_cell ∙ (test a allowed).vertex c (subst (λ k. A.In k c) d cell_in) in
        let left : suc n - length (degeneracy_word 0 w) ≡ 0 = (let l : length (degeneracy_word 0 w) ≡ suc (length w) = length-degeneracy 0 w in omega (arith, l, d)) in
        let cell = base_cell y (suc n - length (degeneracy_word 0 w)) e left in (
          raise_to (form x a) true (form y (suspension a)) b (sym (base_form y e)),
          simplex_is (suspension a) (suc n) y (degeneracy_word 0 w) m (degeneracy_in n 0 w parts.word (omega arith)) cell,
        )

    -- Up of the cell behind the word that is moved up
    pub raised_up : 0 < dim_of x.cell → (y : Simplex) → y.cell ≡ Up x.cell → mask_word y.degens.mask ≡ map suc w
        → IsFound (suspension a) (suc n) (Some (cond (is_base a (form x a)) None (Some (0, form x a)))) (Some y)
    raised_up z y e m =
        let k : ℕ = n - length w - 1 in
        let d : n - length w ≡ suc k = omega (arith, dim, z) in
        let v : is_degenerate A (suc k) c ≡ false = ap (λ j. is_degenerate A j c) (sym d) ∙ normal.not_degenerate x.cell parts.cell in
        let b : is_base a (form x a) ≡ false = base_of_cell ∙ not_base a allowed k c (subst (λ j. A.In j c) d cell_in) v in
        let left : suc n - length (map suc w) ≡ suc (suc k) = (let l : length (map suc w) ≡ length w = length-shifted w in omega (arith, l, d)) in
        let cell = up_cell x y (suc n - length (map suc w)) k e left (subst (λ j. IsCell a j x.cell) d parts.cell) in (
          raise_to (form x a) false (form y (suspension a)) b (sym (up_form x y e m)),
          simplex_is (suspension a) (suc n) y (map suc w) m (is_shifted n w parts.word) cell,
        )

  -- ---- what is found for a body `^x` one degree above what is found for x

  told : (body : BodyText) (n : ℕ) (x : SimplexText) → body ≡ UpText x
      → body_meaning body (suspension a) (suc n) ≡ mapped (λ y. cond (is_base a y) None (Some (0, y))) (meaning x a n)
  told body n x e = ap (λ b. body_meaning b (suspension a) (suc n)) e ∙ ap (λ f. f (suspension a) (suc n)) (meaning-Up x)

  pub up_none : (body : BodyText) (n : ℕ) (x : SimplexText) → body ≡ UpText x → (0 < n) → meaning x a (n - 1) ≡ None → body_meaning body (suspension a) n ≡ None
  up_none body zero x e h f = absurd (omega (arith, h))
  up_none body (suc n) x e h f = let k : n ≡ suc n - 1 = omega arith in told body n x e ∙ ap (mapped (λ y. cond (is_base a y) None (Some (0, y)))) (ap (meaning x a) k ∙ f)

  -- what Up of a simplex was made to be
  pub record Raised (x y : Simplex) : Type 0 where
    pub base : dim_of x.cell ≡ 0 → y.cell ≡ Base
    pub base_word : dim_of x.cell ≡ 0 → mask_word y.degens.mask ≡ degeneracy_word 0 (mask_word x.degens.mask)
    pub up : 0 < dim_of x.cell → y.cell ≡ Up x.cell
    pub up_word : 0 < dim_of x.cell → mask_word y.degens.mask ≡ map suc (mask_word x.degens.mask)

  raised_found : IsBuilt a → (n : ℕ) → n ≤ 32 → (x y : Simplex) → IsSimplex a n x → Raised x y
      → IsFound (suspension a) (suc n) (Some (cond (is_base a (form x a)) None (Some (0, form x a)))) (Some y)
  raised_found built n most x y is r = by (cases_lt 0 (dim_of x.cell))
    where
      by : (0 < dim_of x.cell) ⊎ (dim_of x.cell ≤ 0)
          → IsFound (suspension a) (suc n) (Some (cond (is_base a (form x a)) None (Some (0, form x a)))) (Some y)
      by (inl h) = raised_up built n most x is h y (r.up h) (r.up_word h)
      by (inr h) = let z : dim_of x.cell ≡ 0 = omega (arith, h) in raised_base built n most x is z y (r.base z) (r.base_word z)

  pub up_found : IsBuilt a → (body : BodyText) (n : ℕ) (x : SimplexText) → n ≤ 32 → body ≡ UpText x → 0 < n → (y z : Simplex)
      → IsFound a (n - 1) (meaning x a (n - 1)) (Some y) → Raised y z → IsFound (suspension a) n (body_meaning body (suspension a) n) (Some z)
  up_found built body zero x most e h y z f r = absurd (omega (arith, h))
  up_found built body (suc n) x most e h y z f r =
      let k : suc n - 1 ≡ n = omega arith in
      let g : IsFound a n (meaning x a n) (Some y) = subst (λ j. IsFound a j (meaning x a j) (Some y)) k f in
      let t : body_meaning body (suspension a) (suc n) ≡ Some (cond (is_base a (form y a)) None (Some (0, form y a))) =
      told body n x e ∙ ap (mapped (λ v. cond (is_base a v) None (Some (0, v)))) g.0 in
      let u = raised_found built n (omega (arith, most)) y z g.1 r in
      (t ∙ u.0, u.1)

  -- `^` means nothing in degree 0, and `*` nothing above
  pub up_low : (body : BodyText) (n : ℕ) (x : SimplexText) → body ≡ UpText x → n ≡ 0 → body_meaning body (suspension a) n ≡ None
  up_low body n x e z =
      (λ i. body_meaning (e i) (suspension a) (z i)) ∙ ap (λ f. f (suspension a) 0) (meaning-Up x)

  pub base_high : (body : BodyText) (n : ℕ) → body ≡ Star → (n ≡ 0 → ⊥) → body_meaning body (suspension a) n ≡ None
  base_high body n e z =
      ap (λ b. body_meaning b (suspension a) n) e ∙ ap (λ f. f (suspension a) n) meaning-Star ∙ ap (λ b. when {A = Option (ℕ × Plain a)} b None) (not_eq n 0 z)
