-- A mask without place 0 and the mask with all its places moved down by one.
use Rattle.std.proofs.Common.{◌≡◌, ℕ, zero, suc, ◌+◌, ◌*◌, ◌-◌, ◌/◌, ◌%◌, ◌^◌, ◌<◌, ◌≤◌, min, ◌⊎◌, inl, inr, ◌==◌, Bool, true, false, cond, List, [], ◌∷◌, map, length, refl, sym, ◌∙◌, ap, arith}
use Rattle.std.proofs.Math.Nat.{mod-eq_of_lt}
use Rattle.std.proofs.lemmas.Bool.{cases_lt}
use Rattle.std.proofs.lemmas.Nat.{pow_pos, pow_below}
use Rattle.std.proofs.lemmas.Nat.Bits.{bit_at-suc, bit_at_ones, bit_at_ones_above}
use Rattle.simp_ops.specs.Words.{IsWord}
use Rattle.simp_ops.specs.Bits.{bit, places, mask_word, count_below}
use Rattle.simp_ops.proofs.MaskWords.{places-more, length-mask_word}

-- the places of a test that is moved up by one
next_place : (b : Bool) (n : ℕ) (w : List ℕ) → cond b (suc n ∷ map suc w) (map suc w) ≡ map suc (cond b (n ∷ w) w)
next_place true n w = refl
next_place false n w = refl

places-next : (n : ℕ) (t u : ℕ → Bool) → t 0 ≡ false → ((k : ℕ) → t (suc k) ≡ u k) → places (suc n) t ≡ map suc (places n u)
unfolding places
places-next zero t u z e = ap (λ b. cond b (0 ∷ []) []) z
places-next (suc n) t u z e =
    (λ i. cond (e n i) (suc n ∷ places-next n t u z e i) (places-next n t u z e i)) ∙ next_place (u n) n (places n u)

pub word-lowered : (c : ℕ) → c < 2 ^ 32 → bit c 0 ≡ false → mask_word c ≡ map suc (mask_word (c / 2))
word-lowered c h z =
    places-next 31 (bit c) (bit (c / 2)) z (λ k. ap (λ b. b == 1) (bit_at-suc c k))
    ∙ ap (map suc) (sym (places-more 31 1 (c / 2) (omega (arith, h))))

pub is_lowered : (n : ℕ) (w : List ℕ) → IsWord (suc n) (map suc w) → IsWord n w
is_lowered n [] h = tt
is_lowered n (j ∷ w) h = (let l : suc j < suc n = h.0 in omega (arith, l), is_lowered j w h.1)

pub length-lowered : (w : List ℕ) → length (map suc w) ≡ length w
length-lowered [] = refl
length-lowered (j ∷ w) = ap suc (length-lowered w)

-- ---- the mask with all places below n

ones_below : (n k : ℕ) → count_below k (bit (2 ^ n - 1)) ≡ min k n
ones_below n zero = omega arith
ones_below n (suc k) = by (cases_lt k n) (ones_below n k)
  where
    by : (k < n) ⊎ (n ≤ k) → count_below k (bit (2 ^ n - 1)) ≡ min k n → count_below (suc k) (bit (2 ^ n - 1)) ≡ min (suc k) n
    by (inl h) e = (λ i. e i + cond (ap (λ b. b == 1) (bit_at_ones n k h) i) 1 0) ∙ (let q : min k n + 1 ≡ min (suc k) n = omega arith in q)
    by (inr h) e = (λ i. e i + cond (ap (λ b. b == 1) (bit_at_ones_above n k h) i) 1 0) ∙ (let q : min k n + 0 ≡ min (suc k) n = omega arith in q)

shifted : (n : ℕ) → n ≤ 32 → 1 * 2 ^ n % 2 ^ 64 ≡ 2 ^ n
shifted n h =
    let high : 2 ^ n < 2 ^ 64 = pow_below n 64 (omega (arith, h)) in
    mod-eq_of_lt (let l : 1 * 2 ^ n < 2 ^ 64 = omega (arith, high) in l) ∙ (let q : 1 * 2 ^ n ≡ 2 ^ n = omega arith in q)

pub ones_low : (n : ℕ) → n ≤ 32 → 1 * 2 ^ n % 2 ^ 64 - 1 < 2 ^ n
ones_low n h = omega (arith, shifted n h, pow_pos n)

pub ones_count : (n : ℕ) → n ≤ 32 → length (mask_word (1 * 2 ^ n % 2 ^ 64 - 1)) ≡ n
ones_count n h =
    ap (λ k. length (mask_word (k - 1))) (shifted n h) ∙ length-mask_word (2 ^ n - 1) ∙ ones_below n 32 ∙ (let q : min 32 n ≡ n = omega (arith, h) in q)
