-- The list of a simplex of K(Z,1), read place by place: a zero at each place of the mask, and the integers of the cell elsewhere.
use Rattle.std.proofs.Common.{◌≡◌, ℕ, zero, suc, ◌+◌, ◌<◌, ◌≤◌, Bool, true, false, not, true≢false, cond, List, [], ◌∷◌, ◌++◌, length, take, drop, get_or, ℤ, pos, refl, sym, ◌∙◌, ap, subst, arith}
use Rattle.std.proofs.Math.Seq.{take-suc, take-length}
use Rattle.simp_ops.specs.Bits.{bit, mask_word}
use Rattle.simp_ops.proofs.Squeezed.{and_left, and_right}
use Rattle.spaces.specs.Nerves.{integers, nerve_set, nerve_degeneracy}
use Rattle.spaces.specs.Spaces.{kz1}
use Rattle.cells.specs.declared.cells.Cell.TheVariants.{Ints}
use Rattle.cells.specs.declared.cells.Simplex.{Simplex}
use Rattle.term_lang.specs.Degenerated.{degenerated}
use Rattle.term_lang.specs.Forms.{cell_form, form}
use Rattle.term_lang.specs.Belongs.{is_zero, IsSimplex}
use Rattle.kz1_group.proofs.ListForms.{zero_at, zero_is, has_none, zeros-are, IsList, list_of, form_list, integers_forms}
use Rattle.kz1_group.proofs.Norming.{others}
use Rattle.kz1_group.proofs.Faced.{worded}
use Rattle.twist_chains.proofs.Places.{low_places}

-- ---- the integers that are not 0

others-degeneracy : (j : ℕ) (x : List ℤ) → others (nerve_degeneracy integers j x) ≡ others x
others-degeneracy zero x = refl
others-degeneracy (suc j) [] = refl
others-degeneracy (suc j) (a ∷ x) = ap (λ y. cond (is_zero a) y (a ∷ y)) (others-degeneracy j x)

others-spread : (w : List ℕ) (c : List ℤ) → others (degenerated (nerve_set integers) w c) ≡ others c
others-spread [] c = refl
others-spread (j ∷ w) c = others-degeneracy j (degenerated (nerve_set integers) w c) ∙ others-spread w c

not_true : (b : Bool) → not b ≡ true → b ≡ false
not_true true h = absurd (true≢false (sym h))
not_true false h = refl

others-none : (x : List ℤ) → has_none x ≡ true → others x ≡ x
others-none [] h = refl
others-none (a ∷ x) h =
    ap (λ b. cond b (others x) (a ∷ others x)) (not_true (is_zero a) (and_left (not (is_zero a)) (has_none x) h))
    ∙ ap (λ y. a ∷ y) (others-none x (and_right (not (is_zero a)) (has_none x) h))

-- ---- a place of a list

open-at : (i : ℕ) (z : List ℤ) → i < length z → drop i z ≡ get_or z i (pos 0) ∷ drop (suc i) z
open-at i [] l = absurd (omega (arith, l))
open-at zero (a ∷ z) l = refl
open-at (suc i) (a ∷ z) l = open-at i z (omega (arith, l))

zero-get : (i : ℕ) (z : List ℤ) → i < length z → zero_at z i ≡ is_zero (get_or z i (pos 0))
zero-get i [] l = absurd (omega (arith, l))
zero-get zero (a ∷ z) l = refl
zero-get (suc i) (a ∷ z) l = zero-get i z (omega (arith, l))

-- what a list begins with where something is dropped from it
first_of : (k : ℕ) (x : List ℤ) (a : ℤ) (r : List ℤ) → a ∷ r ≡ drop k x → (k < length x) × ((get_or x k (pos 0) ≡ a) × (r ≡ drop (suc k) x))
first_of zero [] a r e = absurd (let l : suc (length r) ≡ 0 = ap length e in omega (arith, l))
first_of (suc k) [] a r e = absurd (let l : suc (length r) ≡ 0 = ap length e in omega (arith, l))
first_of zero (b ∷ x) a r e = (omega arith, (ap (λ y. get_or y 0 (pos 0)) (sym e), ap (drop 1) e))
first_of (suc k) (b ∷ x) a r e = let q = first_of k x a r e in (omega (arith, q.0), q.1)

-- ---- the loop

-- what is kept after i places, where k integers of the cell have been taken
pub record Reading (z items list : List ℤ) (k i : ℕ) : Type 0 where
  pub taken : list ≡ take i z
  pub left : others (drop i z) ≡ drop k items
  pub low : k ≤ i

pub kept_as : (z items list l : List ℤ) (k m i : ℕ) → list ≡ l → k ≡ m → Reading z items l m i → Reading z items list k i
kept_as z items list l k m i e f r = subst (λ a. Reading z items a k i) (sym e) (subst (λ b. Reading z items l b i) (sym f) r)

module _ (z items list : List ℤ) (k i : ℕ) (within : i < length z) (kept : Reading z items list k i) where
  abbrev a : ℤ
  a = get_or z i (pos 0)

  opened : cond (is_zero a) (others (drop (suc i) z)) (a ∷ others (drop (suc i) z)) ≡ drop k items
  opened = sym (ap others (open-at i z within)) ∙ kept.left

  next : (more : List ℤ) → more ≡ list ++ a ∷ [] → more ≡ take (i + 1) z
  next more e = let f : suc i ≡ i + 1 = omega arith in e ∙ ap (λ l. l ++ a ∷ []) kept.taken ∙ sym (take-suc z i (pos 0) within) ∙ ap (λ j. take j z) f

  pub reading_zero : zero_at z i ≡ true → (more : List ℤ) → more ≡ list ++ pos 0 ∷ [] → Reading z items more k (i + 1)
  reading_zero h more e =
      let q : is_zero a ≡ true = sym (zero-get i z within) ∙ h in
      let f : suc i ≡ i + 1 = omega arith in
      record {
        taken = next more (e ∙ ap (λ b. list ++ b ∷ []) (sym (zero_is a q)));
        left = ap (λ j. others (drop j z)) (sym f) ∙ sym (ap (λ b. cond b (others (drop (suc i) z)) (a ∷ others (drop (suc i) z))) q) ∙ opened;
        low = omega (arith, kept.low);
      }

  pub first_left : zero_at z i ≡ false → (k < length items) × ((get_or items k (pos 0) ≡ a) × (others (drop (suc i) z) ≡ drop (suc k) items))
  first_left h =
      let q : is_zero a ≡ false = sym (zero-get i z within) ∙ h in
      first_of k items a (others (drop (suc i) z)) (sym (ap (λ b. cond b (others (drop (suc i) z)) (a ∷ others (drop (suc i) z))) q) ∙ opened)

  pub reading_other : zero_at z i ≡ false → (more : List ℤ) → more ≡ list ++ get_or items k (pos 0) ∷ [] → Reading z items more (k + 1) (i + 1)
  reading_other h more e =
      let q = first_left h in
      let f : suc i ≡ i + 1 = omega arith in
      let g : suc k ≡ k + 1 = omega arith in
      record {
        taken = next more (e ∙ ap (λ b. list ++ b ∷ []) q.1.0);
        left = ap (λ j. others (drop j z)) (sym f) ∙ q.1.1 ∙ ap (λ j. drop j items) g;
        low = omega (arith, kept.low);
      }

pub all_read : (z items list : List ℤ) (k i : ℕ) → length z ≡ i → Reading z items list k i → list ≡ z
all_read z items list k i e kept = kept.taken ∙ ap (λ j. take j z) (sym e) ∙ take-length z

-- ---- a simplex

module _ (n : ℕ) (x : Simplex) (most : n ≤ 32) (h : IsSimplex kz1 n x) where
  pub list_length : length (form x kz1) ≡ n
  list_length = ((integers_forms n most).simplex x h).0

  pub has_list : (list : List ℤ) × (x.cell ≡ Ints list)
  has_list = let k = worded kz1 n x h in let s = list_of k.dim x.cell k.cell in (s.list, s.cell)

  pub place_is : (i : ℕ) → i < n → bit x.degens.mask i ≡ zero_at (form x kz1) i
  place_is i l = sym (low_places kz1 n most (integers_forms n most) x h i l) ∙ zeros-are i (form x kz1) (let e = list_length in omega (arith, e, l))

  pub reading_first : (items : List ℤ) → x.cell ≡ Ints items → Reading (form x kz1) items [] 0 0
  reading_first items e =
      let k = worded kz1 n x h in
      let s : IsList k.dim x.cell = list_of k.dim x.cell k.cell in
      let plain : cell_form x.cell kz1 ≡ items = ap (λ c. cell_form c kz1) e ∙ form_list items in
      let same : s.list ≡ items = sym (form_list s.list) ∙ sym (ap (λ c. cell_form c kz1) s.cell) ∙ plain in
      record {
        taken = refl;
        left = others-spread (mask_word x.degens.mask) (cell_form x.cell kz1) ∙ ap others plain ∙ others-none items (subst (λ l. has_none l ≡ true) same s.no_zero);
        low = omega arith;
      }
