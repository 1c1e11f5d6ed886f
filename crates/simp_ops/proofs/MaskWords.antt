-- The words of masks: what is in them, how long they are, which mask a word has, and when a call's condition on them is met.
use Rattle.std.proofs.Common.{◌≡◌, ℕ, zero, suc, ◌+◌, ◌-◌, ◌*◌, ◌^◌, ◌<◌, ◌≤◌, Bool, true, false, cond, ◌==◌, ◌||◌, ◌&&◌, List, [], ◌∷◌, length, filter, sym, ◌∙◌, ap, subst, arith, ◌⊎◌, inl, inr}
use Rattle.std.proofs.lemmas.Bool.{cases_eq, cases_lt, cases_order}
use Rattle.std.proofs.lemmas.Bool.Decides.{nat_tests}
use Rattle.std.proofs.lemmas.Nat.{pow_pos, pow_below, pow-add}
use Rattle.std.proofs.lemmas.Nat.Bits.{bit_at_cat_low, bit_at_cat_high, bit_at-suc, bit_at-zero, bit_at-lt, bit_at_above, same_from_bits_below}
use Rattle.std.specs.Int.{bit_at}
use Rattle.simp_ops.specs.Words.{IsWord, compose_words, has}
use Rattle.simp_ops.specs.Bits.{bit, places, mask_word, count_below}
use Rattle.simp_ops.proofs.PlacesOf.{places-true, places-false, places-zero, places_same, places_word, word_below, cases_bool, is_eq, not_eq}
use Rattle.simp_ops.proofs.Masks.{places_has, has_far}
use Rattle.simp_ops.proofs.OperatorLaws.{compose_in}

-- ---- words and the tests that they come from

pub length-places : (n : ℕ) (t : ℕ → Bool) → length (places n t) ≡ count_below n t
length-places zero t = ap length (places-zero t)
length-places (suc n) t = by (cases_bool (t n)) (length-places n t)
  where
    by : (t n ≡ true) ⊎ (t n ≡ false) → length (places n t) ≡ count_below n t → length (places (suc n) t) ≡ count_below n t + cond (t n) 1 0
    by (inl q) r = let e : suc (count_below n t) ≡ count_below n t + 1 = omega arith in ap length (places-true n t q) ∙ ap suc r ∙ e ∙ ap (λ b. count_below n t + cond b 1 0) (sym q)
    by (inr q) r = let e : count_below n t ≡ count_below n t + 0 = omega arith in ap length (places-false n t q) ∙ r ∙ e ∙ ap (λ b. count_below n t + cond b 1 0) (sym q)

pub has-places : (n k : ℕ) (t : ℕ → Bool) → k < n → has (places n t) k ≡ t k
has-places zero k t h = absurd (omega arith)
has-places (suc n) k t h = by (cases_eq k n) (cases_bool (t n)) (λ l. has-places n k t l)
  where
    by : (k ≡ n) ⊎ (k ≡ n → ⊥) → (t n ≡ true) ⊎ (t n ≡ false) → (k < n → has (places n t) k ≡ t k) → has (places (suc n) t) k ≡ t k
    by (inl e) (inl q) r = ap (λ w. has w k) (places-true n t q) ∙ ap (λ b. b || has (places n t) k) (is_eq k n e) ∙ sym (ap t e ∙ q)
    by (inl e) (inr q) r = ap (λ w. has w k) (places-false n t q) ∙ has_far n k (places n t) (places_word n t) (omega arith) ∙ sym (ap t e ∙ q)
    by (inr d) (inl q) r = ap (λ w. has w k) (places-true n t q) ∙ ap (λ b. b || has (places n t) k) (not_eq k n d) ∙ r (omega arith)
    by (inr d) (inr q) r = ap (λ w. has w k) (places-false n t q) ∙ r (omega arith)

same_bit : (a b : ℕ) → a < 2 → b < 2 → (a == 1) ≡ (b == 1) → a ≡ b
same_bit a b h l e = grind (arith, nat_tests)

pub places_told : (n a b : ℕ) → a < 2 ^ n → b < 2 ^ n → places n (bit a) ≡ places n (bit b) → a ≡ b
places_told n a b h l e =
    same_from_bits_below n a b h l (λ k g. same_bit (bit_at a k) (bit_at b k) (bit_at-lt a k) (bit_at-lt b k)
    (sym (has-places n k (bit a) g) ∙ ap (λ w. has w k) e ∙ has-places n k (bit b) g))

-- ---- the mask of a word

pub mask_of : List ℕ → ℕ
mask_of [] = 0
mask_of (j ∷ w) = 1 * 2 ^ j + mask_of w

pub mask_of-lt : (n : ℕ) (w : List ℕ) → IsWord n w → mask_of w < 2 ^ n
unfolding mask_of
mask_of-lt n [] is = pow_pos n
mask_of-lt n (j ∷ w) is = by (cases_lt (j + 1) n) (mask_of-lt j w is.1)
  where
    by : (j + 1 < n) ⊎ (n ≤ j + 1) → mask_of w < 2 ^ j → 1 * 2 ^ j + mask_of w < 2 ^ n
    by (inl h) m = let p : 2 ^ (j + 1) < 2 ^ n = pow_below (j + 1) n h in let d : 2 ^ (j + 1) ≡ 2 ^ j * 2 ^ 1 = pow-add 2 j 1 in omega (arith, p, d, m)
    by (inr h) m =
        let e : j + 1 ≡ n = omega (arith, is.0) in
        let d : 2 ^ (j + 1) ≡ 2 ^ j * 2 ^ 1 = pow-add 2 j 1 in
        let r : 1 * 2 ^ j + mask_of w < 2 ^ (j + 1) = omega (arith, d, m) in
        subst (λ k. 1 * 2 ^ j + mask_of w < 2 ^ k) e r

pub bit-mask_of : (n : ℕ) (w : List ℕ) → IsWord n w → (k : ℕ) → bit (mask_of w) k ≡ has w k
unfolding mask_of
bit-mask_of n [] is k = ap (λ b. b == 1) (bit_at-zero k)
bit-mask_of n (j ∷ w) is k = by (cases_order k j) (bit-mask_of j w is.1 k) (mask_of-lt j w is.1)
  where
    by : (k ≡ j) ⊎ ((k < j) ⊎ (j < k)) → bit (mask_of w) k ≡ has w k → mask_of w < 2 ^ j → bit (1 * 2 ^ j + mask_of w) k ≡ (k == j) || has w k
    by (inl e) r m =
        let z : k - j ≡ 0 = omega arith in
        ap (λ b. b == 1) (bit_at_cat_high 1 j (mask_of w) k m (omega arith)) ∙ ap (bit 1) z ∙ sym (ap (λ b. b || has w k) (is_eq k j e))
    by (inr (inl h)) r m = ap (λ b. b == 1) (bit_at_cat_low 1 j (mask_of w) k h) ∙ r ∙ sym (ap (λ b. b || has w k) (not_eq k j (λ e. omega arith)))
    by (inr (inr h)) r m =
        let z : k - j ≡ suc (k - j - 1) = omega arith in
        ap (λ b. b == 1) (bit_at_cat_high 1 j (mask_of w) k m (omega arith) ∙ ap (bit_at 1) z ∙ bit_at-suc 1 (k - j - 1) ∙ bit_at-zero (k - j - 1))
        ∙ sym (ap (λ b. b || has w k) (not_eq k j (λ e. omega arith)) ∙ has_far j k w is.1 (omega arith))

pub places-mask_of : (n : ℕ) (w : List ℕ) → IsWord n w → places n (bit (mask_of w)) ≡ w
places-mask_of n w is = places_same n (bit (mask_of w)) (has w) (λ k l. bit-mask_of n w is k) ∙ places_has n w is

-- ---- the empty mask, and more places than bits

pub bit-zero : (k : ℕ) → bit 0 k ≡ false
bit-zero k = ap (λ b. b == 1) (bit_at-zero k)

pub places-none : (n : ℕ) → places n (bit 0) ≡ []
places-none zero = places-zero (bit 0)
places-none (suc n) = places-false n (bit 0) (bit-zero n) ∙ places-none n

pub places-more : (n d m : ℕ) → m < 2 ^ n → places (n + d) (bit m) ≡ places n (bit m)
places-more n zero m h = let e : n + 0 ≡ n = omega arith in ap (λ k. places k (bit m)) e
places-more n (suc d) m h =
    let e : n + suc d ≡ suc (n + d) = omega arith in
    ap (λ k. places k (bit m)) e ∙ places-false (n + d) (bit m) (ap (λ b. b == 1) (bit_at_above m n (n + d) h (omega arith))) ∙ places-more n d m h

-- ---- the places of one word that are in another

filter-places : (n : ℕ) (p t : ℕ → Bool) → filter p (places n t) ≡ places n (λ k. t k && p k)
filter-places zero p t = ap (filter p) (places-zero t) ∙ sym (places-zero (λ k. t k && p k))
filter-places (suc n) p t = by (cases_bool (t n)) (cases_bool (p n)) (filter-places n p t)
  where
    both : ℕ → Bool
    both k = t k && p k

    by : (t n ≡ true) ⊎ (t n ≡ false) → (p n ≡ true) ⊎ (p n ≡ false) → filter p (places n t) ≡ places n (λ k. t k && p k) → filter p (places (suc n) t) ≡ places (suc n) (λ k. t k && p k)
    by (inl q) (inl u) r =
        ap (filter p) (places-true n t q) ∙ ap (λ b. cond b (n ∷ filter p (places n t)) (filter p (places n t))) u ∙ ap (λ w. n ∷ w) r
        ∙ sym (places-true n (λ k. t k && p k) (ap (λ b. b && p n) q ∙ u))
    by (inl q) (inr u) r =
        ap (filter p) (places-true n t q) ∙ ap (λ b. cond b (n ∷ filter p (places n t)) (filter p (places n t))) u ∙ r
        ∙ sym (places-false n (λ k. t k && p k) (ap (λ b. b && p n) q ∙ u))
    by (inr q) c r = ap (filter p) (places-false n t q) ∙ r ∙ sym (places-false n (λ k. t k && p k) (ap (λ b. b && p n) q))

pub word-common : (a b c : ℕ) → ((k : ℕ) → bit c k ≡ bit a k && bit b k) → mask_word c ≡ filter (has (mask_word b)) (mask_word a)
word-common a b c e =
    places_same 32 (bit c) (λ k. bit a k && has (mask_word b) k) (λ k h. e k ∙ ap (λ t. bit a k && t) (sym (has-places 32 k (bit b) h)))
    ∙ sym (filter-places 32 (has (mask_word b)) (bit a))

-- ---- conditions of calls

-- the word of a mask with bits below n
pub mask_word_below : (n m : ℕ) → n ≤ 32 → m < 2 ^ n → IsWord n (mask_word m)
mask_word_below n m h l =
    let e : n + (32 - n) ≡ 32 = omega arith in
    subst (IsWord n) (sym (places-more n (32 - n) m l) ∙ ap (λ k. places k (bit m)) e) (places_word n (bit m))

pub length-mask_word : (m : ℕ) → length (mask_word m) ≡ count_below 32 (bit m)
length-mask_word m = length-places 32 (bit m)

-- `compose` may be called where outer is a word of degree n at most 32 and inner one of the degree below it
pub compose_fits : (n outer inner : ℕ) → n ≤ 32 → outer < 2 ^ n → inner < 2 ^ (n - count_below 32 (bit outer)) → IsWord 32 (compose_words (mask_word outer) (mask_word inner))
compose_fits n outer inner h o i =
    let e : n - count_below 32 (bit outer) ≡ n - length (mask_word outer) = ap (λ k. n - k) (sym (length-mask_word outer)) in
    let w : IsWord (n - count_below 32 (bit outer)) (mask_word inner) = mask_word_below (n - count_below 32 (bit outer)) inner (omega arith) i in
    word_below n 32 (compose_words (mask_word outer) (mask_word inner)) h
    (compose_in n (mask_word outer) (mask_word inner) (mask_word_below n outer h o) (subst (λ k. IsWord k (mask_word inner)) e w))
