-- The places that a word leaves out: where the k-th of them stands. A word before a word has there what the inner word has at k.
use Rattle.std.proofs.Common.{◌≡◌, ℕ, zero, suc, ◌+◌, ◌-◌, ◌<◌, ◌≤◌, Bool, true, false, cond, nat_lt, ◌⊎◌, inl, inr, List, [], ◌∷◌, length, map, refl, sym, ◌∙◌, ap, subst, arith}
use Rattle.std.proofs.lemmas.Bool.{cases_lt}
use Rattle.simp_ops.specs.Words.{IsWord, degeneracy_word, compose_words, has}
use Rattle.simp_ops.specs.Bits.{inserted}
use Rattle.simp_ops.proofs.PlacesOf.{is_lt, not_lt, word_below, degeneracy-before, degeneracy-places, inserted-below, inserted-above}
use Rattle.simp_ops.proofs.MaskWords.{has-places}
use Rattle.simp_ops.proofs.Masks.{places_has}
use Rattle.simp_ops.proofs.OperatorLaws.{compose_in}

abbrev pub place_of : List ℕ → ℕ → ℕ
place_of [] k = k
place_of (j ∷ c) k = cond (nat_lt (place_of c k) j) (place_of c k) (suc (place_of c k))

-- the first place stays where no word has place 0
pub first_place : (v : List ℕ) → place_of (map suc v) 0 ≡ 0
first_place [] = refl
first_place (j ∷ v) =
    ap (λ p. cond (nat_lt p (suc j)) p (suc p)) (first_place v) ∙ ap (λ b. cond b 0 1) (is_lt 0 (suc j) (omega arith))

pub place_bound : (c : List ℕ) (k : ℕ) → place_of c k ≤ k + length c
place_bound [] k = omega arith
place_bound (j ∷ c) k = by (nat_lt (place_of c k) j) (place_bound c k)
  where
    by : (b : Bool) → place_of c k ≤ k + length c → cond b (place_of c k) (suc (place_of c k)) ≤ k + suc (length c)
    by true r = omega (arith, r)
    by false r = omega (arith, r)

has-inserted : (n j q : ℕ) (x : List ℕ) → IsWord n x → j ≤ n → q < suc n → has (degeneracy_word j x) q ≡ inserted j (has x) q
has-inserted n j q x is h g =
    ap (λ w. has (degeneracy_word j w) q) (sym (places_has n x is))
    ∙ ap (λ w. has w q) (degeneracy-places n j (has x) h)
    ∙ has-places (suc n) q (inserted j (has x)) g

pub has-place : (n : ℕ) (c r : List ℕ) (k : ℕ) → IsWord n c → IsWord (n - length c) r → k + length c < n → has (compose_words c r) (place_of c k) ≡ has r k
has-place n [] r k is js h = refl
has-place zero (j ∷ c) r k is js h = absurd (omega (arith, h))
has-place (suc n) (j ∷ c) r k is js h = by (cases_lt p j)
    (has-place n c r k lower inner (omega (arith, h)))
  where
    p : ℕ
    p = place_of c k

    low : j ≤ n
    low = let l : j < suc n = is.0 in omega (arith, l)

    lower : IsWord n c
    lower = word_below j n c low is.1

    inner : IsWord (n - length c) r
    inner = let e : suc n - suc (length c) ≡ n - length c = omega arith in subst (λ m. IsWord m r) e js

    x : List ℕ
    x = compose_words c r

    x_is : IsWord n x
    x_is = compose_in n c r lower inner

    by : (place_of c k < j) ⊎ (j ≤ place_of c k) → has (compose_words c r) (place_of c k) ≡ has r k → has (compose_words (j ∷ c) r) (place_of (j ∷ c) k) ≡ has r k
    by (inl l) e =
        ap (λ b. has (degeneracy_word j (compose_words c r)) (cond b (place_of c k) (suc (place_of c k)))) (is_lt (place_of c k) j l)
        ∙ has-inserted n j (place_of c k) (compose_words c r) x_is low (omega (arith, l, low))
        ∙ inserted-below j (place_of c k) (has (compose_words c r)) l ∙ e
    by (inr l) e =
        ap (λ b. has (degeneracy_word j (compose_words c r)) (cond b (place_of c k) (suc (place_of c k)))) (not_lt (place_of c k) j l)
        ∙ has-inserted n j (suc (place_of c k)) (compose_words c r) x_is low (let b : place_of c k ≤ k + length c = place_bound c k in omega (arith, b, h))
        ∙ inserted-above j (place_of c k) (has (compose_words c r)) l ∙ e

compose-none : (n : ℕ) (c : List ℕ) → IsWord n c → compose_words c [] ≡ c
compose-none n [] is = refl
compose-none n (j ∷ c) is = ap (degeneracy_word j) (compose-none j c is.1) ∙ degeneracy-before j c is.1

pub place_out : (n : ℕ) (c : List ℕ) (k : ℕ) → IsWord n c → k + length c < n → has c (place_of c k) ≡ false
place_out n c k is h = ap (λ w. has w (place_of c k)) (sym (compose-none n c is)) ∙ has-place n c [] k is tt h
