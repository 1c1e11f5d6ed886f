-- The normal form of a list: the places of its zeros as a mask, and the other integers.
use Rattle.std.proofs.Common.{◌≡◌, ℕ, zero, suc, ◌+◌, ◌-◌, ◌*◌, ◌%◌, ◌^◌, ◌<◌, ◌≤◌, Bool, true, false, cond, not, nat_lt, ◌==◌, ◌&&◌, List, [], ◌∷◌, ◌++◌, length, take, get_or, ℤ, pos, negsuc, of_z, bit_or, refl, sym, ◌∙◌, ap, subst, arith, ◌⊎◌, inl, inr}
use Rattle.std.proofs.lemmas.Bool.{cases_eq}
use Rattle.std.proofs.lemmas.Nat.{pow_below, one_shl, or_lt}
use Rattle.std.proofs.lemmas.Nat.Bits.{bit_at_set_same, bit_at_set_other, bit_at_above}
use Rattle.std.proofs.Math.Seq.{take-suc, take-length}
use Rattle.std.proofs.lemmas.List.{append-nil}
use Rattle.std.specs.Int.{w64}
use Rattle.std.specs.Prelude.{nat_abs}
use Rattle.simp_ops.specs.Bits.{bit, places, mask_word}
use Rattle.simp_ops.proofs.PlacesOf.{not_eq, is_lt, cases_bool, places-true, places-false, places-zero, places_same}
use Rattle.simp_ops.proofs.MaskWords.{places-more}
use Rattle.spaces.specs.Nerves.{integers, nerve_set, nerve_degeneracy}
use Rattle.spaces.specs.Spaces.{kz1}
use Rattle.spaces.proofs.Nerves.{length-degeneracy}
use Rattle.cells.specs.declared.cells.Cell.TheVariants.{Ints}
use Rattle.term_lang.specs.Degenerated.{degenerated}
use Rattle.term_lang.specs.Forms.{cell_form}
use Rattle.term_lang.specs.Belongs.{is_zero, is_cell}
use Rattle.values.specs.Sizes.{greatest}
use Rattle.oracle_iface.specs.CodeSizes.{cell_integer}
use Rattle.kz1_group.proofs.Magnitudes.{within_list}
use Rattle.kz1_group.proofs.ListForms.{zero_at, zero_is, has_none, is_list, form_list}

-- the integers that are not 0
abbrev pub others : List ℤ → List ℤ
others [] = []
others (a ∷ x) = cond (is_zero a) (others x) (a ∷ others x)

has_none-others : (x : List ℤ) → has_none (others x) ≡ true
has_none-others [] = refl
has_none-others (a ∷ x) = by (is_zero a) refl (has_none-others x)
  where
    by : (b : Bool) → is_zero a ≡ b → has_none (others x) ≡ true → has_none (cond b (others x) (a ∷ others x)) ≡ true
    by true e r = r
    by false e r = ap (λ b. not b && has_none (others x)) e ∙ r

others-append : (x : List ℤ) (a : ℤ) → others (x ++ a ∷ []) ≡ others x ++ cond (is_zero a) [] (a ∷ [])
others-append [] a = refl
others-append (b ∷ x) a = by (is_zero b) (others-append x a)
  where
    by : (c : Bool) → others (x ++ a ∷ []) ≡ others x ++ cond (is_zero a) [] (a ∷ [])
        → cond c (others (x ++ a ∷ [])) (b ∷ others (x ++ a ∷ [])) ≡ cond c (others x) (b ∷ others x) ++ cond (is_zero a) [] (a ∷ [])
    by true r = r
    by false r = ap (λ z. b ∷ z) r

-- ---- the zeros before the other integers make the list

-- the word of a test before a list
abbrev spread : ℕ → (ℕ → Bool) → List ℤ → List ℤ
spread n t c = degenerated (nerve_set integers) (places n t) c

-- place 0 first
spread-first : (n : ℕ) (t : ℕ → Bool) (c r : List ℤ) (h : ℤ) → cond (t 0) (pos 0 ∷ c) c ≡ h ∷ r → spread (suc n) t c ≡ h ∷ spread n (λ k. t (suc k)) r
spread-first zero t c r h e = by (cases_bool (t 0)) ∙ e ∙ ap (λ w. h ∷ degenerated (nerve_set integers) w r) (sym (places-zero (λ k. t (suc k))))
  where
    by : (t 0 ≡ true) ⊎ (t 0 ≡ false) → spread 1 t c ≡ cond (t 0) (pos 0 ∷ c) c
    by (inl q) =
        ap (λ w. degenerated (nerve_set integers) w c) (places-true 0 t q ∙ ap (λ w. 0 ∷ w) (places-zero t)) ∙ ap (λ b. cond b (pos 0 ∷ c) c) (sym q)
    by (inr q) = ap (λ w. degenerated (nerve_set integers) w c) (places-false 0 t q ∙ places-zero t) ∙ ap (λ b. cond b (pos 0 ∷ c) c) (sym q)
spread-first (suc n) t c r h e = by (cases_bool (t (suc n))) (spread-first n t c r h e)
  where
    u : ℕ → Bool
    u = λ k. t (suc k)

    by : (t (suc n) ≡ true) ⊎ (t (suc n) ≡ false) → spread (suc n) t c ≡ h ∷ spread n (λ k. t (suc k)) r
        → spread (suc (suc n)) t c ≡ h ∷ spread (suc n) (λ k. t (suc k)) r
    by (inl q) g =
        ap (λ w. degenerated (nerve_set integers) w c) (places-true (suc n) t q) ∙ ap (nerve_degeneracy integers (suc n)) g
        ∙ ap (λ w. h ∷ degenerated (nerve_set integers) w r) (sym (places-true n (λ k. t (suc k)) q))
    by (inr q) g =
        ap (λ w. degenerated (nerve_set integers) w c) (places-false (suc n) t q) ∙ g
        ∙ ap (λ w. h ∷ degenerated (nerve_set integers) w r) (sym (places-false n (λ k. t (suc k)) q))

pub spread_zeros : (x : List ℤ) → degenerated (nerve_set integers) (places (length x) (zero_at x)) (others x) ≡ x
spread_zeros [] = ap (λ w. degenerated (nerve_set integers) w []) (places-zero (λ k. false))
spread_zeros (a ∷ x) =
    spread-first (length x) (zero_at (a ∷ x)) (others (a ∷ x)) (others x) a (by (is_zero a) refl) ∙ ap (λ z. a ∷ z) (spread_zeros x)
  where
    by : (b : Bool) → is_zero a ≡ b → cond b (pos 0 ∷ cond b (others x) (a ∷ others x)) (cond b (others x) (a ∷ others x)) ≡ a ∷ others x
    by true e = λ i. sym (zero_is a e) i ∷ others x
    by false e = refl

length-spread : (w : List ℕ) (c : List ℤ) → length (degenerated (nerve_set integers) w c) ≡ length w + length c
length-spread [] c = omega arith
length-spread (j ∷ w) c = length-degeneracy integers j (degenerated (nerve_set integers) w c) ∙ (let e : length (degenerated (nerve_set integers) w c) ≡ length w + length c = length-spread w c in omega (arith, e))

-- ---- the loop

-- what is kept while the first i integers have been taken
pub record Norming (x : List ℤ) (mask : ℕ) (cell : List ℤ) (i : ℕ) : Type 0 where
  pub small : mask < 2 ^ i
  pub bits : (k : ℕ) → k < i → bit mask k ≡ zero_at x k
  pub kept : cell ≡ others (take i x)

zero_at-get : (x : List ℤ) (i : ℕ) → i < length x → zero_at x i ≡ is_zero (get_or x i (pos 0))
zero_at-get [] i h = absurd (omega arith)
zero_at-get (a ∷ x) zero h = refl
zero_at-get (a ∷ x) (suc i) h = zero_at-get x i (omega arith)

module _ (x : List ℤ) (mask : ℕ) (cell : List ℤ) (i : ℕ) (within : i < length x) (kept : Norming x mask cell i) where
  a : ℤ
  a = get_or x i (pos 0)

  next_others : others (take (i + 1) x) ≡ cell ++ cond (is_zero (get_or x i (pos 0))) [] (get_or x i (pos 0) ∷ [])
  next_others =
      let e : i + 1 ≡ suc i = omega arith in
      ap (λ k. others (take k x)) e ∙ ap others (take-suc x i (pos 0) within) ∙ others-append (take i x) (get_or x i (pos 0))
      ∙ ap (λ z. z ++ cond (is_zero (get_or x i (pos 0))) [] (get_or x i (pos 0) ∷ [])) (sym kept.kept)

  pub norming_zero : length x ≤ 32 → get_or x i (pos 0) ≡ pos 0 → Norming x (bit_or mask (1 * 2 ^ i % 2 ^ 64)) cell (i + 1)
  norming_zero most e = record {
    small = subst (λ n. bit_or mask n < 2 ^ (i + 1)) (sym (one_shl i 64 (omega arith))) (or_lt (i + 1) mask (2 ^ i) (less mask kept.small) (pow_below i (i + 1) (omega arith)));
    bits = λ k l. by k (cases_eq k i) l;
    kept = sym (next_others ∙ ap (λ b. cell ++ cond b [] (get_or x i (pos 0) ∷ [])) (ap is_zero e) ∙ append-nil cell);
  }
    where
      less : (m : ℕ) → m < 2 ^ i → m < 2 ^ (i + 1)
      less m l = let p : 2 ^ i < 2 ^ (i + 1) = pow_below i (i + 1) (omega arith) in omega (arith, p, l)

      by : (k : ℕ) → (k ≡ i) ⊎ (k ≡ i → ⊥) → k < i + 1 → bit (bit_or mask (1 * 2 ^ i % 2 ^ 64)) k ≡ zero_at x k
      by k (inl f) l =
          ap (bit (bit_or mask (1 * 2 ^ i % 2 ^ 64))) f ∙ ap (λ n. n == 1) (bit_at_set_same w64 mask i (omega arith))
          ∙ sym (ap (zero_at x) f ∙ zero_at-get x i within ∙ ap is_zero e)
      by k (inr f) l = ap (λ n. n == 1) (bit_at_set_other w64 mask i (omega arith) k f) ∙ kept.bits k (omega arith)

  pub norming_other : is_zero (get_or x i (pos 0)) ≡ false → Norming x mask (cell ++ get_or x i (pos 0) ∷ []) (i + 1)
  norming_other e = record {
    small = less (pow_below i (i + 1) (omega arith)) kept.small;
    bits = λ k l. by k (cases_eq k i) l;
    kept = sym (next_others ∙ ap (λ b. cell ++ cond b [] (get_or x i (pos 0) ∷ [])) e);
  }
    where
      less : 2 ^ i < 2 ^ (i + 1) → mask < 2 ^ i → mask < 2 ^ (i + 1)
      less p l = omega (arith, p, l)

      by : (k : ℕ) → (k ≡ i) ⊎ (k ≡ i → ⊥) → k < i + 1 → bit mask k ≡ zero_at x k
      by k (inl f) l = ap (bit mask) f ∙ ap (λ n. n == 1) (bit_at_above mask i i kept.small (omega arith)) ∙ sym (ap (zero_at x) f ∙ zero_at-get x i within ∙ e)
      by k (inr f) l = kept.bits k (omega arith)

pub kept_at : (x : List ℤ) (m n : ℕ) (c d : List ℤ) (i : ℕ) → m ≡ n → c ≡ d → Norming x n d i → Norming x m c i
kept_at x m n c d i e f k = subst (λ a. Norming x a c i) (sym e) (subst (λ b. Norming x n b i) (sym f) k)

pub kept_for : (x : List ℤ) (m : ℕ) (c : List ℤ) (i j : ℕ) → i ≡ j → Norming x m c i → Norming x m c j
kept_for x m c i j e k = subst (Norming x m c) e k

-- ---- what the loop made

-- the mask and the cell, as a simplex
module _ (x : List ℤ) (mask : ℕ) (cell : List ℤ) (most : length x ≤ 32) (kept : Norming x mask cell (length x)) where
  all_others : cell ≡ others x
  all_others = kept.kept ∙ ap others (take-length x)

  zeros : mask_word mask ≡ places (length x) (zero_at x)
  zeros =
      let e : 32 ≡ length x + (32 - length x) = omega arith in
      ap (λ n. places n (bit mask)) e ∙ places-more (length x) (32 - length x) mask kept.small ∙ places_same (length x) (bit mask) (zero_at x) kept.bits

  pub normed_form : degenerated (nerve_set integers) (mask_word mask) (cell_form (Ints cell) kz1) ≡ x
  normed_form = (λ i. degenerated (nerve_set integers) (zeros i) ((form_list cell ∙ all_others) i)) ∙ spread_zeros x

  pub normed_simplex : nat_lt mask (2 ^ length x) && is_cell (Ints cell) kz1 (length x - length (mask_word mask)) ≡ true
  normed_simplex =
      let w = places (length x) (zero_at x) in
      let l : length (degenerated (nerve_set integers) w (others x)) ≡ length w + length (others x) = length-spread w (others x) in
      let m : length (degenerated (nerve_set integers) w (others x)) ≡ length x = ap length (spread_zeros x) in
      let c : length (others x) ≡ length x - length w = omega (arith, l, m) in
      (λ i. is_lt mask (2 ^ length x) kept.small i && is_cell (Ints (all_others i)) kz1 (length x - length (zeros i)))
      ∙ is_list (length x - length w) (others x) c (has_none-others x)

  pub normed_within : cell_integer (Ints cell) ≡ greatest nat_abs x
  normed_within =
      let w = places (length x) (zero_at x) in
      ap (λ c. cell_integer (Ints c)) all_others ∙ within_list w (others x) x (spread_zeros x)

-- an integer of which the bits are not all 0
pub not_zero : (a : ℤ) → (of_z w64 a ≡ 0 → ⊥) → is_zero a ≡ false
not_zero (pos zero) h = absurd (h refl)
not_zero (pos (suc n)) h = not_eq (suc n) 0 (λ e. omega (arith, e))
not_zero (negsuc n) h = refl
