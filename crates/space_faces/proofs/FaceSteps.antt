-- The faces of a cell that are pushed one by one, as the weights of the terms see them.
use Rattle.std.proofs.Common.{◌≡◌, ℕ, suc, ◌+◌, ◌-◌, ◌*◌, ◌%◌, ◌^◌, ◌<◌, ◌≤◌, Bool, true, false, not, cond, nat_lt, ◌⊎◌, inl, inr, List, [], ◌∷◌, ◌++◌, map, length, refl, sym, ◌∙◌, ap, arith}
use Rattle.std.proofs.lemmas.Bool.{cases_lt}
use Rattle.std.proofs.lemmas.Nat.{mul-mod_first}
use Rattle.std.proofs.Math.Nat.{mod-mod}
use Rattle.fp_field.specs.declared.element.Fp.{Fp}
use Rattle.fp_field.specs.Field.{SameMod, sign, minus}
use Rattle.fp_field.specs.Chains.{Terms, weigh, keep, faces_sum}
use Rattle.fp_field.proofs.Mod.{same-plus, same-times, same-by, pred-times}
use Rattle.fp_field.proofs.Weights.{weigh-append}
use Rattle.chain_core.specs.Formal.{numbers}
use Rattle.chain_core.proofs.SumLemmas.{numbers-append}
use Rattle.simp_ops.specs.Bits.{mask_word}
use Rattle.simp_ops.proofs.PlacesOf.{is_eq, not_eq}
use Rattle.simp_ops.proofs.Squeezed.{and_right}
use Rattle.simp_ops.proofs.MaskWords.{places-none}
use Rattle.spaces.specs.Simplicial.{is_degenerate}
use Rattle.spaces.specs.Spaces.{Space, Plain, set_of}
use Rattle.cells.specs.declared.cells.Cell.{Cell}
use Rattle.cells.specs.declared.cells.Simplex.{Simplex}
use Rattle.term_lang.specs.Degenerated.{degenerated}
use Rattle.term_lang.specs.Forms.{cell_form, form}
use Rattle.term_lang.specs.Belongs.{is_cell, IsCell, IsSimplex}
use Rattle.term_lang.specs.Quote.{quote_cell}
use Rattle.term_lang.specs.NormalForms.{HasNormalForms, HasNormalCells}
use Rattle.oracle_iface.specs.Keys.{quote_chain}
use Rattle.space_faces.specs.CodeBoundaries.{kept}

-- ---- a simplex without degeneracies is its cell

module _ (X : Space) where
  pub no_mask_form : (y : Simplex) → y.degens.mask ≡ 0 → form y X ≡ cell_form y.cell X
  no_mask_form y e =
      ap (λ m. degenerated (set_of X) (mask_word m) (cell_form y.cell X)) e
      ∙ ap (λ w. degenerated (set_of X) w (cell_form y.cell X)) (places-none 32)

  no_mask_left : (n : ℕ) (y : Simplex) → y.degens.mask ≡ 0 → n - length (mask_word y.degens.mask) ≡ n
  no_mask_left n y e =
      let k : n - 0 ≡ n = omega arith in
      ap (λ m. n - length (mask_word m)) e ∙ ap (λ w. n - length w) (places-none 32) ∙ k

  no_mask_cell : (n : ℕ) (y : Simplex) → y.degens.mask ≡ 0 → IsSimplex X n y → IsCell X n y.cell
  no_mask_cell n y e h =
      ap (is_cell y.cell X) (sym (no_mask_left n y e))
      ∙ and_right (nat_lt y.degens.mask (2 ^ n)) (is_cell y.cell X (n - length (mask_word y.degens.mask))) h

  quoted_face : (n : ℕ) → HasNormalCells X n → (y : Simplex) → y.degens.mask ≡ 0 → IsSimplex X n y → quote_cell X n (form y X) ≡ y.cell
  quoted_face n cells y e h = ap (quote_cell X n) (no_mask_form y e) ∙ cells.quoted y.cell (no_mask_cell n y e h)

-- ---- the first faces of a cell

module _ (p : ℕ) (X : Space) (n : ℕ) where
  -- the first i faces of a simplex of degree n + 1 that are not degenerate, with their signs
  abbrev pub front : ℕ → Plain X → Terms Cell
  front i x = quote_chain X (map (λ t. ((n, t.0), t.1)) (keep (λ y. not (is_degenerate (set_of X) n y)) (faces_sum p (set_of X).face i x)))

  with_face : Bool → ℕ → Plain X → Terms Cell
  with_face b i x =
      let rest = keep (λ y. not (is_degenerate (set_of X) n y)) (faces_sum p (set_of X).face i x) in
      quote_chain X (map (λ t. ((n, t.0), t.1)) (cond (not b) (((set_of X).face i x, sign p i) ∷ rest) rest))

  front_kept : (w : Cell → ℕ) (i : ℕ) (x : Plain X) → is_degenerate (set_of X) n ((set_of X).face i x) ≡ false
      → weigh w (front (suc i) x) ≡ sign p i * w (quote_cell X n ((set_of X).face i x)) + weigh w (front i x)
  unfolding with_face
  front_kept w i x e = ap (λ b. weigh w (with_face b i x)) e

  front_dropped : (w : Cell → ℕ) (i : ℕ) (x : Plain X) → is_degenerate (set_of X) n ((set_of X).face i x) ≡ true
      → weigh w (front (suc i) x) ≡ weigh w (front i x)
  unfolding with_face
  front_dropped w i x e = ap (λ b. weigh w (with_face b i x)) e

-- ---- one more face

pushed_one : {K : Type 0} (w : K → ℕ) (old new : List (K × Fp)) (k : K) (s : Fp) → new ≡ old ++ (k, s) ∷ []
    → weigh w (numbers new) ≡ weigh w (numbers old) + s.value * w k
pushed_one w old new k s e =
    let r : weigh w (numbers new) ≡ weigh w (numbers old ++ (k, s.value) ∷ []) = ap (weigh w) (ap numbers e ∙ numbers-append old ((k, s) ∷ [])) in
    omega (arith, r, weigh-append w (numbers old) ((k, s.value) ∷ []))

pub append-none : {A : Type 0} (xs : List A) → xs ++ [] ≡ xs
append-none [] = refl
append-none (x ∷ xs) = ap (λ l. x ∷ l) (append-none xs)

pub kept_cell : (y : Simplex) (s : Fp) → y.degens.mask ≡ 0 → kept y s ≡ (y.cell, s) ∷ []
kept_cell y s e = ap (λ b. cond b ((y.cell, s) ∷ []) []) (is_eq y.degens.mask 0 e)

pub kept_none : (y : Simplex) (s : Fp) → 0 < y.degens.mask → kept y s ≡ []
kept_none y s h = ap (λ b. cond b ((y.cell, s) ∷ []) []) (not_eq y.degens.mask 0 (λ e. omega (arith, e, h)))

times_same : (p a b v : ℕ) → SameMod p a b → SameMod p (a * v) (b * v)
times_same p a b v e = sym (mul-mod_first a v p) ∙ ap (λ m. m * v % p) e ∙ mul-mod_first b v p

regrouped : (a c f g v : ℕ) → a + c * f + g * c * v ≡ a + c * (g * v + f)
regrouped a c f g v = omega arith

module _ (p : ℕ) (X : Space) (n : ℕ) (forms : HasNormalForms X n) (cells : HasNormalCells X n) where
  not_degenerate : (y : Simplex) → IsSimplex X n y → y.degens.mask ≡ 0 → is_degenerate (set_of X) n (form y X) ≡ false
  not_degenerate y h e = by (is_degenerate (set_of X) n (form y X)) refl
    where
      by : (b : Bool) → is_degenerate (set_of X) n (form y X) ≡ b → b ≡ false
      by true d = let k : 0 < y.degens.mask = (forms.degenerate y h).0 d in absurd (omega (arith, k, e))
      by false d = refl

  pub face_pushed : (w : Cell → ℕ) (i : ℕ) (x : Plain X) (y : Simplex) (s : Fp) (c start : ℕ) (old new : List (Cell × Fp))
      → IsSimplex X n y → form y X ≡ (set_of X).face i x → SameMod p s.value (sign p i * c) → new ≡ old ++ kept y s
      → SameMod p (weigh w (numbers old)) (start + c * weigh w (front p X n i x))
      → SameMod p (weigh w (numbers new)) (start + c * weigh w (front p X n (suc i) x))
  face_pushed w i x y s c start old new h f g e r = by (cases_lt 0 y.degens.mask)
    where
      by : (0 < y.degens.mask) ⊎ (y.degens.mask ≤ 0) → SameMod p (weigh w (numbers new)) (start + c * weigh w (front p X n (suc i) x))
      by (inl k) =
          let d : is_degenerate (set_of X) n ((set_of X).face i x) ≡ true = ap (is_degenerate (set_of X) n) (sym f) ∙ (forms.degenerate y h).1 k in
          ap (λ l. weigh w (numbers l) % p) (e ∙ ap (λ l. old ++ l) (kept_none y s k) ∙ append-none old) ∙ r
          ∙ ap (λ m. (start + c * m) % p) (sym (front_dropped p X n w i x d))
      by (inr k) =
          let z : y.degens.mask ≡ 0 = omega arith in
          let d : is_degenerate (set_of X) n ((set_of X).face i x) ≡ false = ap (is_degenerate (set_of X) n) (sym f) ∙ not_degenerate y h z in
          let q : quote_cell X n ((set_of X).face i x) ≡ y.cell = ap (quote_cell X n) (sym f) ∙ quoted_face X n cells y z h in
          ap (λ m. m % p) (pushed_one w old new y.cell s (e ∙ ap (λ l. old ++ l) (kept_cell y s z)))
          ∙ same-plus p (weigh w (numbers old)) (start + c * weigh w (front p X n i x)) (s.value * w y.cell) (sign p i * c * w y.cell) r (times_same p s.value (sign p i * c) (w y.cell) g)
          ∙ ap (λ m. m % p) (regrouped start c (weigh w (front p X n i x)) (sign p i) (w y.cell))
          ∙ ap (λ m. (start + c * m) % p) (ap (λ k. sign p i * w k + weigh w (front p X n i x)) (sym q) ∙ sym (front_kept p X n w i x d))

-- ---- the sign of the next face

moved_product : (q a c : ℕ) → q * (a * c) ≡ q * a * c
moved_product q a c = omega arith

pub next_sign : (p i s t c : ℕ) → 0 < p → s < p → t ≡ minus p s → SameMod p s (sign p i * c) → SameMod p t (sign p (suc i) * c)
next_sign p i s t c pos l e h =
    let turned : SameMod p (p - s) ((p - 1) * s) = same-by p (p - s) ((p - 1) * s) s 1 (omega (arith, pred-times p s pos, l)) in
    ap (λ m. m % p) e ∙ mod-mod (p - s) p ∙ turned ∙ same-times p (p - 1) s (sign p i * c) h ∙ ap (λ m. m % p) (moved_product (p - 1) (sign p i) c)
