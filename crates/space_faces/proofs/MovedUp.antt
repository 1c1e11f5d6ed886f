-- Words and masks whose places are all moved up by one.
use Rattle.std.proofs.Common.{◌≡◌, ℕ, zero, suc, ◌+◌, ◌-◌, ◌*◌, ◌%◌, ◌^◌, ◌<◌, ◌==◌, Bool, true, false, cond, List, [], ◌∷◌, map, length, refl, sym, ◌∙◌, ap, arith}
use Rattle.std.proofs.Math.Nat.{mod-eq_of_lt}
use Rattle.std.proofs.lemmas.Nat.Bits.{bit_at_cat_low, bit_at_cat_high}
use Rattle.simp_ops.specs.Words.{IsWord}
use Rattle.simp_ops.specs.Bits.{bit, places, mask_word}
use Rattle.simp_ops.proofs.MaskWords.{places-more, bit-zero}

-- the places of a test that is moved up by one
next_place : (b : Bool) (n : ℕ) (w : List ℕ) → cond b (suc n ∷ map suc w) (map suc w) ≡ map suc (cond b (n ∷ w) w)
next_place true n w = refl
next_place false n w = refl

places-next : (n : ℕ) (t u : ℕ → Bool) → t 0 ≡ false → ((k : ℕ) → t (suc k) ≡ u k) → places (suc n) t ≡ map suc (places n u)
unfolding places
places-next zero t u z e = ap (λ b. cond b (0 ∷ []) []) z
places-next (suc n) t u z e =
    (λ i. cond (e n i) (suc n ∷ places-next n t u z e i) (places-next n t u z e i)) ∙ next_place (u n) n (places n u)

bit-first : (m : ℕ) → bit (m * 2 ^ 1 + 0) 0 ≡ false
bit-first m = ap (λ k. k == 1) (bit_at_cat_low m 1 0 0 (omega arith)) ∙ bit-zero 0

bit-next : (m k : ℕ) → bit (m * 2 ^ 1 + 0) (suc k) ≡ bit m k
bit-next m k =
    let e : suc k - 1 ≡ k = omega arith in
    ap (λ k. k == 1) (bit_at_cat_high m 1 0 (suc k) (omega arith) (omega arith)) ∙ ap (bit m) e

-- the mask as the code makes it
pub mask-moved : (m : ℕ) → m < 2 ^ 31 → mask_word (m * 2 ^ 1 % 2 ^ 64) ≡ map suc (mask_word m)
mask-moved m h =
    let low : m * 2 ^ 1 + 0 < 2 ^ 64 = omega arith in
    let e : m * 2 ^ 1 % 2 ^ 64 ≡ m * 2 ^ 1 + 0 = mod-eq_of_lt (omega (arith, low)) ∙ omega arith in
    ap mask_word e ∙ places-next 31 (bit (m * 2 ^ 1 + 0)) (bit m) (bit-first m) (bit-next m) ∙ ap (map suc) (sym (places-more 31 1 m h))

pub word-moved : (n : ℕ) (w : List ℕ) → IsWord n w → IsWord (suc n) (map suc w)
word-moved n [] h = tt
word-moved n (j ∷ w) h = (let l : j < n = h.0 in omega (arith, l), word-moved j w h.1)

pub length-moved : (w : List ℕ) → length (map suc w) ≡ length w
length-moved [] = refl
length-moved (j ∷ w) = ap suc (length-moved w)
