-- Words on a stack: what is put on top, taken off, and read from the top down.
use Rattle.std.proofs.Common.{◌≡◌, ℕ, suc, ◌-◌, ◌<◌, ◌≤◌, List, [], ◌∷◌, ◌++◌, length, get_or, drop, reverse, Result, IfOk, refl, sym, ◌∙◌, ap, append_assoc, drop-cons, arith}
use Rattle.std.proofs.lemmas.List.{reverse-append}
use Rattle.std.proofs.lemmas.Result.{IfOk-weaker}
use Rattle.cells.specs.declared.cells.Letter.{Letter}
use Rattle.loop_words.specs.LetterWords.{before, word_before, reduced, times}

pub top : {X : Type 0} (stack : List X) (x : X) → reverse (stack ++ x ∷ []) ≡ x ∷ reverse stack
top stack x = reverse-append stack (x ∷ [])

pub before-append : (u v w : List Letter) → word_before (u ++ v) w ≡ word_before u (word_before v w)
before-append [] v w = refl
before-append (l ∷ u) v w = ap (before l) (before-append u v w)

pub times-before : (u v : List Letter) → times u v ≡ word_before u (reduced v)
times-before u v = before-append u v []

-- what is read from the top moves behind what was read
pub moved : {X : Type 0} (word stack : List X) (x : X) → (word ++ x ∷ []) ++ reverse stack ≡ word ++ reverse (stack ++ x ∷ [])
moved word stack x = append_assoc word (x ∷ []) (reverse stack) ∙ ap (λ l. word ++ l) (sym (top stack x))

-- two words that were put on an empty stack are their product
pub product_on_top : {E : Type 0} (u v s t start below both : List Letter) (r : Result (List Letter) E) → IfOk r (λ w. w ≡ reverse both) → s ≡ u → t ≡ v → start ≡ []
    → reverse both ≡ word_before s (reverse below) → reverse below ≡ word_before t (reverse start) → IfOk r (λ w. w ≡ times u v)
product_on_top u v s t start below both r h a b d e f =
    let under : reverse below ≡ reduced v = f ∙ (λ i. word_before (b i) (reverse (d i))) in
    IfOk-weaker r _ _ (λ w g. g ∙ e ∙ (λ i. word_before (a i) (under i)) ∙ sym (times-before u v)) h

-- the letter before those that were put
pub last_first : {X : Type 0} (w : List X) (k : ℕ) (x : X) → 0 < k → k ≤ length w → x ≡ get_or w (k - 1) x → drop (k - 1) w ≡ x ∷ drop k w
last_first w k x p h e = let s : suc (k - 1) ≡ k = omega arith in drop-cons w (k - 1) x (omega arith) ∙ (λ j. sym e j ∷ drop (s j) w)

-- a word that was put on an empty stack is reduced
pub reduced_on_top : {E : Type 0} (u s start top : List Letter) (r : Result (List Letter) E) → IfOk r (λ w. w ≡ reverse top) → s ≡ u → start ≡ []
    → reverse top ≡ word_before s (reverse start) → IfOk r (λ w. w ≡ reduced u)
reduced_on_top u s start top r h a d e = IfOk-weaker r _ _ (λ w g. g ∙ e ∙ (λ i. word_before (a i) (reverse (d i)))) h
