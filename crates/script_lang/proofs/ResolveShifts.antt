-- A mask moved up by one place, and its word.
use Rattle.std.proofs.Common.{◌≡◌, ℕ, zero, suc, ◌*◌, ◌/◌, ◌%◌, ◌^◌, ◌<◌, Bool, true, false, ◌==◌, ◌⊎◌, inl, inr, List, [], ◌∷◌, map, length, refl, sym, ◌∙◌, ap, arith}
use Rattle.std.proofs.lemmas.Nat.Bits.{bit_at_lowest, bit_at-suc, bit_at_above}
use Rattle.simp_ops.specs.Words.{IsWord}
use Rattle.simp_ops.specs.Bits.{bit, places, mask_word}
use Rattle.simp_ops.proofs.PlacesOf.{cases_bool, places-true, places-false, places-zero}
use Rattle.simp_ops.proofs.MaskWords.{places-more}

-- the places of a test that is moved up by one
places-shifted : (n : ℕ) (t u : ℕ → Bool) → u 0 ≡ false → ((k : ℕ) → u (suc k) ≡ t k) → places (suc n) u ≡ map suc (places n t)
places-shifted zero t u z e = places-false 0 u z ∙ places-zero u ∙ ap (map suc) (sym (places-zero t))
places-shifted (suc n) t u z e = by (cases_bool (t n)) (places-shifted n t u z e)
  where
    by : (t n ≡ true) ⊎ (t n ≡ false) → places (suc n) u ≡ map suc (places n t) → places (suc (suc n)) u ≡ map suc (places (suc n) t)
    by (inl q) r = places-true (suc n) u (e n ∙ q) ∙ ap (λ w. suc n ∷ w) r ∙ ap (map suc) (sym (places-true n t q))
    by (inr q) r = places-false (suc n) u (e n ∙ q) ∙ r ∙ ap (map suc) (sym (places-false n t q))

twice-lowest : (m : ℕ) → bit (m * 2) 0 ≡ false
twice-lowest m = let e : m * 2 % 2 ≡ 0 = omega arith in ap (λ b. b == 1) (bit_at_lowest (m * 2) ∙ e)

twice-next : (m k : ℕ) → bit (m * 2) (suc k) ≡ bit m k
twice-next m k = let e : m * 2 / 2 ≡ m = omega arith in ap (λ b. b == 1) (bit_at-suc (m * 2) k) ∙ ap (λ n. bit n k) e

pub word_shifted : (m r : ℕ) → m < 2 ^ 31 → r ≡ m * 2 → mask_word r ≡ map suc (mask_word m)
word_shifted m r l e =
    ap mask_word e ∙ places-shifted 31 (bit m) (bit (m * 2)) (twice-lowest m) (twice-next m) ∙ ap (map suc) (sym (places-more 31 1 m l))

-- a mask below 2^31 has no place 31
pub has_room : (m : ℕ) → m < 2 ^ 31 → bit m 31 ≡ false
has_room m l = ap (λ b. b == 1) (bit_at_above m 31 31 l (omega arith))

pub is_shifted : (n : ℕ) (w : List ℕ) → IsWord n w → IsWord (suc n) (map suc w)
is_shifted n [] is = tt
is_shifted n (j ∷ w) is = (let h : j < n = is.0 in omega (arith, h), is_shifted j w is.1)

pub length-shifted : (w : List ℕ) → length (map suc w) ≡ length w
length-shifted [] = refl
length-shifted (j ∷ w) = ap suc (length-shifted w)
