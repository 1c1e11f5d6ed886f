-- A cell as a simplex without degeneracies, and its faces one by one.
use Rattle.std.proofs.Common.{◌≡◌, ℕ, zero, suc, ◌+◌, ◌-◌, ◌*◌, ◌^◌, ◌<◌, ◌≤◌, ◌&&◌, ◌⊎◌, inl, inr, All, List, [], ◌++◌, length, refl, sym, ◌∙◌, ap, subst, arith, count_ones, lit<}
use Rattle.std.proofs.lemmas.Bool.{cases_lt}
use Rattle.std.proofs.lemmas.Nat.{pow_pos}
use Rattle.std.proofs.lemmas.List.Elements.{All-push}
use Rattle.fp_field.specs.declared.element.Fp.{Fp}
use Rattle.fp_field.specs.Field.{SameMod, sign}
use Rattle.fp_field.specs.Chains.{weigh}
use Rattle.chain_core.specs.Formal.{numbers}
use Rattle.simp_ops.specs.Bits.{mask_word}
use Rattle.simp_ops.proofs.PlacesOf.{is_lt}
use Rattle.simp_ops.proofs.MaskWords.{places-none}
use Rattle.spaces.specs.Allowed.{IsAllowed}
use Rattle.spaces.specs.Spaces.{Space, set_of}
use Rattle.cells.specs.declared.cells.Cell.{Cell}
use Rattle.cells.specs.declared.cells.Simplex.{Simplex}
use Rattle.cells.specs.Dim.{dim_of, degree_of, capped}
use Rattle.values.specs.Laws.{cell_d}
use Rattle.term_lang.specs.Degenerated.{degenerated}
use Rattle.term_lang.specs.Forms.{cell_form, form}
use Rattle.term_lang.specs.Belongs.{is_cell, IsSimplex}
use Rattle.term_lang.proofs.CodeForms.{count_ones-mask}
use Rattle.oracle_iface.specs.Keys.{quote_chain}
use Rattle.normal_forms.specs.Built.{IsBuilt}
use Rattle.space_faces.specs.Boundaries.{IsLowCell}
use Rattle.space_faces.specs.CodeBoundaries.{code_d, kept}
use Rattle.normal_forms.proofs.BuiltForms.{built_forms, built_cells}
use Rattle.space_faces.proofs.FaceSteps.{front, face_pushed, kept_cell, kept_none, append-none}

no_ones : count_ones 0 ≡ 0
no_ones = count_ones-mask 0 (lit< tt) ∙ ap length (places-none 32)

pub bare_degree : (d : ℕ) → d ≤ 32 → capped (count_ones 0 + d) ≡ d
bare_degree d h = omega (arith, no_ones, h)

module _ (X : Space) where
  pub bare_form : (c : Cell) → degenerated (set_of X) (mask_word 0) (cell_form c X) ≡ cell_form c X
  bare_form c = ap (λ w. degenerated (set_of X) w (cell_form c X)) (places-none 32)

  pub bare_simplex : (x : Simplex) → x.degens.mask ≡ 0 → IsLowCell X x.cell → IsSimplex X (degree_of x) x
  bare_simplex x e h =
      let n = dim_of x.cell in
      let k : n - 0 ≡ n = omega arith in
      let d : degree_of x ≡ n = ap (λ m. capped (count_ones m + n)) e ∙ bare_degree n h.0 in
      let left : n - length (mask_word x.degens.mask) ≡ n = ap (λ m. n - length (mask_word m)) e ∙ ap (λ w. n - length w) (places-none 32) ∙ k in
      let low : x.degens.mask < 2 ^ n = omega (arith, e, pow_pos n) in
      subst (λ j. IsSimplex X j x) (sym d) ((λ i. is_lt x.degens.mask (2 ^ n) low i && is_cell x.cell X (left i)) ∙ h.1)

-- ---- all faces of a cell

pub front_all : (p : ℕ) (X : Space) (c : Cell) (d i : ℕ) → d ≡ dim_of c → (d ≡ 0 → ⊥) → i ≡ suc d → front p X (d - 1) i (cell_form c X) ≡ code_d p X c
front_all p X c zero i e h q = absurd (h refl)
front_all p X c (suc n) i e h q =
    let k : suc n - 1 ≡ n = omega arith in
    (λ j. front p X (k j) (q j) (cell_form c X)) ∙ ap (λ m. quote_chain X (cell_d p X (m, cell_form c X))) e

pub no_faces : (p : ℕ) (X : Space) (c : Cell) → dim_of c ≡ 0 → code_d p X c ≡ []
no_faces p X c e = ap (λ m. quote_chain X (cell_d p X (m, cell_form c X))) e

-- ---- one more face

pub cell_pushed : (p : ℕ) (X : Space) → IsAllowed X → IsBuilt X → (cell : Cell) (d : ℕ) → IsLowCell X cell → d ≡ dim_of cell → (d ≡ 0 → ⊥)
    → (w : Cell → ℕ) (i : ℕ) (y : Simplex) (s : Fp) (c start : ℕ) (old new : List (Cell × Fp))
    → IsSimplex X (capped (count_ones 0 + dim_of cell) - 1) y
    → form y X ≡ (set_of X).face i (degenerated (set_of X) (mask_word 0) (cell_form cell X))
    → SameMod p s.value (sign p i * c) → new ≡ old ++ kept y s
    → SameMod p (weigh w (numbers old)) (start + c * weigh w (front p X (d - 1) i (cell_form cell X)))
    → SameMod p (weigh w (numbers new)) (start + c * weigh w (front p X (d - 1) (suc i) (cell_form cell X)))
cell_pushed p X is built cell d low e pos w i y s c start old new h f g q r =
    let l : d - 1 ≤ 32 = (let k : dim_of cell ≤ 32 = low.0 in omega (arith, e, k)) in
    let n : capped (count_ones 0 + dim_of cell) - 1 ≡ d - 1 = ap (λ m. m - 1) (bare_degree (dim_of cell) low.0 ∙ sym e) in
    face_pushed p X (d - 1) (built_forms X is built (d - 1) l) (built_cells X is built (d - 1) l) w i (cell_form cell X) y s c start old new
    (subst (λ m. IsSimplex X m y) n h) (f ∙ ap ((set_of X).face i) (bare_form X cell)) g q r

pub kept_elements : (p : ℕ) (y : Simplex) (s : Fp) (old new : List (Cell × Fp)) → new ≡ old ++ kept y s → s.value < p
    → All (λ (t : Cell × Fp). t.1.value < p) old → All (λ (t : Cell × Fp). t.1.value < p) new
kept_elements p y s old new e h a = subst (All (λ (t : Cell × Fp). t.1.value < p)) (sym e) (by (cases_lt 0 y.degens.mask))
  where
    by : (0 < y.degens.mask) ⊎ (y.degens.mask ≤ 0) → All (λ (t : Cell × Fp). t.1.value < p) (old ++ kept y s)
    by (inl k) = subst (All (λ (t : Cell × Fp). t.1.value < p)) (sym (ap (λ l. old ++ l) (kept_none y s k) ∙ append-none old)) a
    by (inr k) =
        let z : y.degens.mask ≡ 0 = omega arith in
        subst (All (λ (t : Cell × Fp). t.1.value < p)) (sym (ap (λ l. old ++ l) (kept_cell y s z))) (All-push (λ (t : Cell × Fp). t.1.value < p) old (y.cell, s) a h)

pub plus_none : (a c : ℕ) → a ≡ a + c * 0
plus_none a c = omega arith

pub one_times : (c : ℕ) → c ≡ 1 * c
one_times c = omega arith
