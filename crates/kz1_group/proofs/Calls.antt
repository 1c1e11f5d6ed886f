-- What the calls on lists do, step by step.
use Rattle.std.proofs.Common.{◌≡◌, ℕ, zero, suc, ◌+◌, ◌-◌, ◌<◌, ◌≤◌, List, [], ◌∷◌, ◌++◌, length, take, drop, get_or, ℤ, ◌+ℤ◌, pos, refl, sym, ◌∙◌, ap, arith}
use Rattle.spaces.specs.Nerves.{integers, nerve_times, nerve_face}

-- ---- products

times-suc : (i : ℕ) (x y : List ℤ) → i < length x → length x ≡ length y
    → nerve_times integers (take (suc i) x) (take (suc i) y) ≡ nerve_times integers (take i x) (take i y) ++ (get_or x i (pos 0) +ℤ get_or y i (pos 0)) ∷ []
times-suc i [] y h e = absurd (omega arith)
times-suc i (a ∷ x) [] h e = absurd (omega (arith, e))
times-suc zero (a ∷ x) (b ∷ y) h e = refl
times-suc (suc i) (a ∷ x) (b ∷ y) h e =
    let l : suc (length x) ≡ suc (length y) = e in ap (λ z. (a +ℤ b) ∷ z) (times-suc i x y (omega arith) (omega (arith, l)))

pub times-next : (i : ℕ) (x y : List ℤ) → i < length x → length x ≡ length y
    → nerve_times integers (take (i + 1) x) (take (i + 1) y) ≡ nerve_times integers (take i x) (take i y) ++ (get_or x i (pos 0) +ℤ get_or y i (pos 0)) ∷ []
times-next i x y h e =
    let f : i + 1 ≡ suc i = omega arith in ap (λ k. nerve_times integers (take k x) (take k y)) f ∙ times-suc i x y h e

-- ---- faces

-- d_n drops the last
pub face-last : (n : ℕ) (x : List ℤ) → length x ≡ suc n → nerve_face integers (suc n) x ≡ take n x
face-last n [] e = absurd (omega (arith, e))
face-last zero (a ∷ []) e = refl
face-last zero (a ∷ (b ∷ x)) e = absurd (let l : suc (suc (length x)) ≡ suc zero = e in omega (arith, l))
face-last (suc n) (a ∷ x) e = let l : suc (length x) ≡ suc (suc n) = e in ap (λ z. a ∷ z) (face-last n x (omega (arith, l)))

-- d_i adds the i-th and the next
pub face-inner : (j : ℕ) (x : List ℤ) → suc j < length x
    → nerve_face integers (suc j) x ≡ (take j x ++ (get_or x j (pos 0) +ℤ get_or x (suc j) (pos 0)) ∷ []) ++ drop (suc (suc j)) x
face-inner j [] h = absurd (omega arith)
face-inner j (a ∷ []) h = absurd (omega arith)
face-inner zero (a ∷ (b ∷ x)) h = refl
face-inner (suc j) (a ∷ (b ∷ x)) h = ap (λ z. a ∷ z) (face-inner j (b ∷ x) (omega arith))

pub face-between : (i : ℕ) (x : List ℤ) → 1 ≤ i → i < length x
    → nerve_face integers i x ≡ (take (i - 1) x ++ (get_or x (i - 1) (pos 0) +ℤ get_or x i (pos 0)) ∷ []) ++ drop (i + 1) x
face-between zero x h l = absurd (omega arith)
face-between (suc j) x h l =
    let e : j ≡ suc j - 1 = omega arith in
    let f : suc (suc j) ≡ suc j + 1 = omega arith in
    face-inner j x l ∙ (λ k. (take (e k) x ++ (get_or x (e k) (pos 0) +ℤ get_or x (suc j) (pos 0)) ∷ []) ++ drop (f k) x)

pub face-end : (i : ℕ) (x : List ℤ) → 1 ≤ i → i ≡ length x → nerve_face integers i x ≡ take (i - 1) x
face-end zero x h e = absurd (omega arith)
face-end (suc j) x h e = let f : j ≡ suc j - 1 = omega arith in face-last j x (sym e) ∙ ap (λ k. take k x) f
