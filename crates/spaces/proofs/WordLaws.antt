-- Lengths of words of degeneracies.
use Rattle.std.proofs.Common.{◌≡◌, ℕ, suc, ◌+◌, ◌<◌, ◌≤◌, Bool, true, false, cond, nat_le, List, [], ◌∷◌, length, refl, ◌∙◌, ap, arith}
use Rattle.simp_ops.specs.Words.{IsWord, degeneracy_word, compose_words}

pub length-degeneracy : (j : ℕ) (w : List ℕ) → length (degeneracy_word j w) ≡ suc (length w)
length-degeneracy j [] = refl
length-degeneracy j (k ∷ w) = by (nat_le j k) (length-degeneracy j w)
  where
    by : (b : Bool) → length (degeneracy_word j w) ≡ suc (length w) → length (cond b (suc k ∷ degeneracy_word j w) (j ∷ (k ∷ w))) ≡ suc (suc (length w))
    by true r = ap suc r
    by false r = refl

pub length-compose : (u v : List ℕ) → length (compose_words u v) ≡ length v + length u
length-compose [] v = omega arith
length-compose (j ∷ u) v =
    let e : suc (length v + length u) ≡ length v + suc (length u) = omega arith in length-degeneracy j (compose_words u v) ∙ ap suc (length-compose u v) ∙ e

-- a word below n has at most n places
pub word_length : (n : ℕ) (w : List ℕ) → IsWord n w → length w ≤ n
word_length n [] is = omega arith
word_length n (j ∷ w) is = let b : j < n = is.0 in omega (arith, word_length j w is.1, b)
