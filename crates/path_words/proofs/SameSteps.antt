-- A path word says its tests.
use Rattle.std.proofs.Common.{◌≡◌, ℕ, zero, suc, ◌<◌, Bool, true, false, ◌∷◌, refl, sym, ◌∙◌, ap, arith}
use Rattle.simp_ops.specs.PathWords.{Step, left, right, step}
use Rattle.path_words.proofs.PathTests.{next, word, word-suc, Apart}

abbrev stays_left : Step → Bool
stays_left right = true
stays_left s = false

abbrev stays_right : Step → Bool
stays_right left = true
stays_right s = false

left-told : (x y : Bool) → stays_left (step x y) ≡ x
left-told true y = refl
left-told false true = refl
left-told false false = refl

right-told : (x y : Bool) → (x ≡ true → y ≡ false) → stays_right (step x y) ≡ y
right-told true y h = sym (h refl)
right-told false true h = refl
right-told false false h = refl

same_steps : (n k : ℕ) (l r m s : ℕ → Bool) → word n l r ≡ word n m s → k < n → step (l k) (r k) ≡ step (m k) (s k)
same_steps zero k l r m s e h = absurd (omega arith)
same_steps (suc n) zero l r m s e h = let f : step (l 0) (r 0) ∷ word n (next l) (next r) ≡ step (m 0) (s 0) ∷ word n (next m) (next s) = sym (word-suc n l r) ∙ e ∙ word-suc n m s in cc f
same_steps (suc n) (suc k) l r m s e h =
    let f : step (l 0) (r 0) ∷ word n (next l) (next r) ≡ step (m 0) (s 0) ∷ word n (next m) (next s) = sym (word-suc n l r) ∙ e ∙ word-suc n m s in
    same_steps n k (next l) (next r) (next m) (next s) (cc f) (omega arith)

pub same_left : (n k : ℕ) (l r m s : ℕ → Bool) → word n l r ≡ word n m s → k < n → l k ≡ m k
same_left n k l r m s e h = sym (left-told (l k) (r k)) ∙ ap stays_left (same_steps n k l r m s e h) ∙ left-told (m k) (s k)

pub same_right : (n k : ℕ) (l r m s : ℕ → Bool) → Apart n l r → Apart n m s → word n l r ≡ word n m s → k < n → r k ≡ s k
same_right n k l r m s a b e h = sym (right-told (l k) (r k) (a.once k)) ∙ ap stays_right (same_steps n k l r m s e h) ∙ right-told (m k) (s k) (b.once k)
