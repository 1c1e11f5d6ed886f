-- How many keys are held.
use Rattle.std.proofs.Common.{◌≡◌, ℕ, zero, suc, ◌+◌, cond, arith, List, [], ◌∷◌, ◌++◌, set, refl, ap, Some, slice_get}
use Rattle.std.proofs.lemmas.List.Sums.{sum_by-cons}
use Rattle.memo_book.specs.Kept.{is_held, held_count}
use Rattle.memo_book.specs.declared.book.State.{State}
use Rattle.memo_book.proofs.Lists.{some_same}

count_cons : (x : State) (xs : List State) → held_count (x ∷ xs) ≡ cond (is_held x) 1 0 + held_count xs
count_cons x xs = sum_by-cons (λ (s : State). cond (is_held s) 1 0) x xs

pub count_set : (l : List State) (i : ℕ) (x y : State) → slice_get l i ≡ Some x → held_count (set l i y) + cond (is_held x) 1 0 ≡ held_count l + cond (is_held y) 1 0
count_set [] i x y e = absurd (cc e)
count_set (z ∷ l) zero x y e =
    let same : cond (is_held z) 1 0 ≡ cond (is_held x) 1 0 = ap (λ (s : State). cond (is_held s) 1 0) (some_same z x e) in
    let a : ℕ = cond (is_held x) 1 0 in let b : ℕ = cond (is_held y) 1 0 in let c : ℕ = cond (is_held z) 1 0 in let n : ℕ = held_count l in
    let u : ℕ = held_count (y ∷ l) in let w : ℕ = held_count (z ∷ l) in let u_is : u ≡ b + n = count_cons y l in let w_is : w ≡ c + n = count_cons z l in
    let s : c ≡ a = same in let goal : u + a ≡ w + b = omega arith in goal
count_set (z ∷ l) (suc i) x y e =
    let a : ℕ = cond (is_held x) 1 0 in let b : ℕ = cond (is_held y) 1 0 in let c : ℕ = cond (is_held z) 1 0 in let n : ℕ = held_count l in
    let m : ℕ = held_count (set l i y) in let u : ℕ = held_count (z ∷ set l i y) in let w : ℕ = held_count (z ∷ l) in
    let u_is : u ≡ c + m = count_cons z (set l i y) in let w_is : w ≡ c + n = count_cons z l in
    let ih : m + a ≡ n + b = count_set l i x y e in let goal : u + a ≡ w + b = omega arith in goal

pub count_push : (xs : List State) (y : State) → held_count (xs ++ y ∷ []) ≡ held_count xs + cond (is_held y) 1 0
count_push [] y = refl
count_push (x ∷ xs) y =
    let a : ℕ = cond (is_held x) 1 0 in let b : ℕ = cond (is_held y) 1 0 in let n : ℕ = held_count xs in let m : ℕ = held_count (xs ++ y ∷ []) in
    let u : ℕ = held_count (x ∷ (xs ++ y ∷ [])) in let w : ℕ = held_count (x ∷ xs) in let u_is : u ≡ a + m = count_cons x (xs ++ y ∷ []) in
    let w_is : w ≡ a + n = count_cons x xs in let ih : m ≡ n + b = count_push xs y in let goal : u ≡ w + b = omega arith in goal
