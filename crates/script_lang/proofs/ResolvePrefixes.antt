-- Prefixes of degeneracies and their masks.
use Rattle.std.proofs.Common.{◌≡◌, ℕ, suc, ◌+◌, ◌*◌, ◌%◌, ◌^◌, ◌<◌, ◌≤◌, Bool, true, false, ◌&&◌, ◌||◌, ◌==◌, nat_lt, List, [], ◌∷◌, ◌++◌, ◌↔◌, ◌⊎◌, inl, inr, length, take, drop, get_or, bit_or, sym, ◌∙◌, ap, subst, arith, refl}
use Rattle.std.proofs.Math.Seq.{drop-cons, take-length, drop-length}
use Rattle.std.proofs.lemmas.Bool.{cases_eq}
use Rattle.std.proofs.lemmas.List.{take_more}
use Rattle.std.proofs.lemmas.Nat.{one_shl, or_lt, pow_below}
use Rattle.std.proofs.lemmas.Nat.Bits.{bit_at_set_same, bit_at_set_other}
use Rattle.std.specs.Int.{w64}
use Rattle.simp_ops.specs.Words.{IsWord, has}
use Rattle.simp_ops.specs.Bits.{bit, mask_word}
use Rattle.simp_ops.proofs.PlacesOf.{is_lt, is_eq, not_eq, places_same, word_below}
use Rattle.simp_ops.proofs.Masks.{places_has}
use Rattle.simp_ops.proofs.Squeezed.{and_left, and_right}
use Rattle.term_lang.proofs.CodeForms.{lt_is}
use Rattle.script_lang.specs.Meaning.{is_prefix}

pub word_of_prefix : (n : ℕ) (w : List ℕ) → is_prefix n w ≡ true → IsWord n w
word_of_prefix n [] h = tt
word_of_prefix n (j ∷ w) h = (lt_is j n (and_left (nat_lt j n) (is_prefix j w) h), word_of_prefix j w (and_right (nat_lt j n) (is_prefix j w) h))

pub prefix_of_word : (n : ℕ) (w : List ℕ) → IsWord n w → is_prefix n w ≡ true
prefix_of_word n [] is = refl
prefix_of_word n (j ∷ w) is = λ i. is_lt j n is.0 i && prefix_of_word j w is.1 i

pub length-word : (n : ℕ) (w : List ℕ) → IsWord n w → length w ≤ n
length-word n [] is = omega arith
length-word n (j ∷ w) is = omega (arith, is.0, length-word j w is.1)

-- what is kept while the first k places of a word have been read
pub record Reading (n : ℕ) (word : List ℕ) (mask bound k : ℕ) : Type 0 where
  pub small : mask < 2 ^ 32
  pub limit : bound ≤ n
  pub rest : IsWord n word ↔ IsWord bound (drop k word)
  pub bits : (j : ℕ) → bit mask j ≡ has (take k word) j

has-append : (w : List ℕ) (j k : ℕ) → has (w ++ j ∷ []) k ≡ (k == j) || has w k
has-append [] j k = refl
has-append (i ∷ w) j k = ap (λ b. (k == i) || b) (has-append w j k) ∙ or_turned (k == i) (k == j) (has w k)
  where
    or_turned : (a b c : Bool) → a || (b || c) ≡ b || (a || c)
    or_turned true true c = refl
    or_turned true false c = refl
    or_turned false b c = refl

bit-set : (m j k : ℕ) → j < 64 → bit (bit_or m (1 * 2 ^ j % 2 ^ 64)) k ≡ (k == j) || bit m k
bit-set m j k h = by (cases_eq k j)
  where
    by : (k ≡ j) ⊎ (k ≡ j → ⊥) → bit (bit_or m (1 * 2 ^ j % 2 ^ 64)) k ≡ (k == j) || bit m k
    by (inl e) = ap (bit (bit_or m (1 * 2 ^ j % 2 ^ 64))) e ∙ ap (λ n. n == 1) (bit_at_set_same w64 m j h) ∙ sym (ap (λ b. b || bit m k) (is_eq k j e))
    by (inr d) = ap (λ n. n == 1) (bit_at_set_other w64 m j h k d) ∙ sym (ap (λ b. b || bit m k) (not_eq k j d))

pub reading_more : (n : ℕ) (word : List ℕ) (mask bound x j : ℕ) → n ≤ 32 → x < length word → j ≡ get_or word x 0 → j < bound → Reading n word mask bound x
    → Reading n word (bit_or mask (1 * 2 ^ j % 2 ^ 64)) j (x + 1)
reading_more n word mask bound x j most h e l r =
    let d : drop x word ≡ j ∷ drop (x + 1) word = drop-cons word x 0 h ∙ (λ i. sym e i ∷ drop (suc-one i) word) in
    let t : take (x + 1) word ≡ take x word ++ j ∷ [] = take_more word x 0 h ∙ (λ i. take x word ++ sym e i ∷ []) in
    record {
      small = subst (λ n. bit_or mask n < 2 ^ 32) (sym (one_shl j 64 (omega (arith, r.limit)))) (or_lt 32 mask (2 ^ j) r.small (pow_below j 32 (omega (arith, r.limit))));
      limit = omega (arith, r.limit);
      rest = (λ is. (subst (IsWord bound) d (r.rest.0 is)).1, λ is. r.rest.1 (subst (IsWord bound) (sym d) (l, is)));
      bits = λ k. bit-set mask j k (omega (arith, r.limit)) ∙ ap (λ b. (k == j) || b) (r.bits k) ∙ sym (ap (λ w. has w k) t ∙ has-append (take x word) j k);
    }
  where
    suc-one : suc x ≡ x + 1
    suc-one = omega arith

-- the next place is not below the bound
pub reading_fails : (n : ℕ) (word : List ℕ) (mask bound x j : ℕ) → x < length word → j ≡ get_or word x 0 → bound ≤ j → Reading n word mask bound x → is_prefix n word ≡ true → ⊥
reading_fails n word mask bound x j h e l r p =
    let d : drop x word ≡ j ∷ drop (x + 1) word = drop-cons word x 0 h ∙ (λ i. sym e i ∷ drop (suc-one i) word) in
    let below : j < bound = (subst (IsWord bound) d (r.rest.0 (word_of_prefix n word p))).0 in
    omega (arith, below)
  where
    suc-one : suc x ≡ x + 1
    suc-one = omega arith

pub reading_word : (n : ℕ) (word : List ℕ) (mask bound : ℕ) → Reading n word mask bound (length word) → IsWord n word
reading_word n word mask bound r = r.rest.1 (subst (IsWord bound) (sym (drop-length word)) tt)

pub reading_all : (n : ℕ) (word : List ℕ) (mask bound : ℕ) → n ≤ 32 → Reading n word mask bound (length word) → mask_word mask ≡ word
reading_all n word mask bound most r =
    places_same 32 (bit mask) (has word) (λ k l. r.bits k ∙ ap (λ w. has w k) (take-length word))
    ∙ places_has 32 word (word_below n 32 word most (reading_word n word mask bound r))
