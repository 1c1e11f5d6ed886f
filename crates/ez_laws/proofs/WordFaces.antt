-- Words of Booleans, true where a simplex does not move, and their faces; the two words of a word of steps.
use Rattle.std.specs.Prelude.{◌≡◌, refl, ℕ, ◌≤◌, ◌+◌, List, [], ◌∷◌, Bool, true, false, ◌&&◌, ◌||◌, not, ◌++◌}
use Rattle.std.proofs.Common.{sym, ◌∙◌, ap, arith, zero, suc}
use Rattle.std.proofs.lemmas.Bool.{true≢false}
use Rattle.simp_ops.specs.PathWords.{Step, left as H, right as V, both as D}

-- faces of a word of Booleans: true says that the step does not move
unfoldable pub face : ℕ → List Bool → List Bool
face zero [] = []
face zero (b ∷ w) = w
face (suc i) [] = []
face (suc zero) (a ∷ []) = []
face (suc zero) (a ∷ (b ∷ w)) = (a && b) ∷ w
face (suc (suc i)) (a ∷ w) = a ∷ face (suc i) w

-- absorbed by a degeneracy
unfoldable pub absd : ℕ → List Bool → Bool
absd zero [] = false
absd zero (b ∷ w) = b
absd (suc i) [] = false
absd (suc zero) (a ∷ []) = a
absd (suc zero) (a ∷ (b ∷ w)) = a || b
absd (suc (suc i)) (a ∷ w) = absd (suc i) w

pub and-assoc : (a b c : Bool) → (a && (b && c)) ≡ ((a && b) && c)
and-assoc true b c = refl
and-assoc false b c = refl

-- d_i d_{k+1} = d_k d_i on words, i ≤ k
pub face-face : (i k : ℕ) (w : List Bool) → i ≤ k → face i (face (suc k) w) ≡ face k (face i w)
unfolding face
face-face zero zero [] l = refl
face-face zero zero (a ∷ []) l = refl
face-face zero zero (a ∷ (b ∷ w)) l = refl
face-face zero (suc k) [] l = refl
face-face zero (suc k) (a ∷ w) l = refl
face-face (suc i) zero w l = absurd (omega (arith, l))
face-face (suc zero) (suc zero) [] l = refl
face-face (suc zero) (suc zero) (a ∷ []) l = refl
face-face (suc zero) (suc zero) (a ∷ (b ∷ [])) l = refl
face-face (suc zero) (suc zero) (a ∷ (b ∷ (c ∷ w))) l = ap (λ x. x ∷ w) (and-assoc a b c)
face-face (suc zero) (suc (suc k)) [] l = refl
face-face (suc zero) (suc (suc k)) (a ∷ []) l = refl
face-face (suc zero) (suc (suc k)) (a ∷ (b ∷ w)) l = refl
face-face (suc (suc i)) (suc zero) w l = absurd (omega (arith, l))
face-face (suc (suc i)) (suc (suc k)) [] l = refl
face-face (suc (suc i)) (suc (suc k)) (a ∷ w) l = ap (λ x. a ∷ x) (face-face (suc i) (suc k) w (omega (arith, l)))

unfoldable pub len : {A : Type 0} → List A → ℕ
len [] = zero
len (x ∷ u) = suc (len u)

-- an inner face is a merge at a split
pub merge : (u r : List Bool) (a b : Bool) → face (suc (len u)) (u ++ (a ∷ (b ∷ r))) ≡ u ++ ((a && b) ∷ r)
unfolding face len
merge [] r a b = refl
merge (c ∷ u) r a b = ap (λ x. c ∷ x) (merge u r a b)

pub merge-abs : (u r : List Bool) (a b : Bool) → absd (suc (len u)) (u ++ (a ∷ (b ∷ r))) ≡ (a || b)
unfolding absd len
merge-abs [] r a b = refl
merge-abs (c ∷ u) r a b = merge-abs u r a b

-- the two words of a word of letters
unfoldable pub isV : Step → Bool
isV H = false
isV V = true
isV D = false

unfoldable pub isH : Step → Bool
isH H = true
isH V = false
isH D = false

unfoldable pub bits : (Step → Bool) → List Step → List Bool
bits f [] = []
bits f (c ∷ w) = f c ∷ bits f w

pub bits-app : (f : Step → Bool) (u v : List Step) → bits f (u ++ v) ≡ bits f u ++ bits f v
unfolding bits
bits-app f [] v = refl
bits-app f (c ∷ u) v = ap (λ x. f c ∷ x) (bits-app f u v)

pub len-bits : (f : Step → Bool) (u : List Step) → len (bits f u) ≡ len u
unfolding bits len
len-bits f [] = refl
len-bits f (c ∷ u) = ap suc (len-bits f u)

-- letters H V, or V H, become D on both words, and both sides are absorbed
pub hv-face : (f : Step → Bool) (u r : List Step) (a b : Step) → (f a && f b) ≡ f D
    → face (suc (len u)) (bits f (u ++ (a ∷ (b ∷ r)))) ≡ bits f (u ++ (D ∷ r))
unfolding bits
hv-face f u r a b e =
    ap (λ x. face (suc x) (bits f (u ++ (a ∷ (b ∷ r))))) (sym (len-bits f u)) ∙
    (ap (face (suc (len (bits f u)))) (bits-app f u (a ∷ (b ∷ r))) ∙
    (merge (bits f u) (bits f r) (f a) (f b) ∙ (ap (λ x. bits f u ++ (x ∷ bits f r)) e ∙ sym (bits-app f u (D ∷ r)))))

pub hv-abs : (f : Step → Bool) (u r : List Step) (a b : Step)
    → absd (suc (len u)) (bits f (u ++ (a ∷ (b ∷ r)))) ≡ (f a || f b)
unfolding bits
hv-abs f u r a b =
    ap (λ x. absd (suc x) (bits f (u ++ (a ∷ (b ∷ r))))) (sym (len-bits f u)) ∙
    (ap (absd (suc (len (bits f u)))) (bits-app f u (a ∷ (b ∷ r))) ∙ merge-abs (bits f u) (bits f r) (f a) (f b))

-- on complementary words, where one side is not absorbed, the other is and its face is the complement
unfoldable pub compl : List Bool → List Bool
compl [] = []
compl (b ∷ w) = not b ∷ compl w

pub absd-true : {A : Type 0} → true ≡ false → A
absd-true e = absurd (true≢false e)

pub compl-abs : (i : ℕ) (w : List Bool) → suc i ≤ len w + 1 → 1 ≤ len w → absd i w ≡ false → absd i (compl w) ≡ true
unfolding absd compl len
compl-abs zero [] l n e = absurd (omega (arith, n))
compl-abs zero (b ∷ w) l n e = ap not e
compl-abs (suc i) [] l n e = absurd (omega (arith, n))
compl-abs (suc zero) (a ∷ []) l n e = ap not e
compl-abs (suc zero) (false ∷ (false ∷ w)) l n e = refl
compl-abs (suc zero) (false ∷ (true ∷ w)) l n e = absd-true e
compl-abs (suc zero) (true ∷ (b ∷ w)) l n e = absd-true e
compl-abs (suc (suc i)) (a ∷ []) l n e = absurd (omega (arith, l))
compl-abs (suc (suc i)) (a ∷ (b ∷ w)) l n e = compl-abs (suc i) (b ∷ w) (omega (arith, l)) (omega arith) e

pub compl-face : (i : ℕ) (w : List Bool) → absd i w ≡ false → face i (compl w) ≡ compl (face i w)
unfolding face absd compl
compl-face zero [] e = refl
compl-face zero (b ∷ w) e = refl
compl-face (suc i) [] e = refl
compl-face (suc zero) (a ∷ []) e = refl
compl-face (suc zero) (false ∷ (false ∷ w)) e = refl
compl-face (suc zero) (false ∷ (true ∷ w)) e = absd-true e
compl-face (suc zero) (true ∷ (b ∷ w)) e = absd-true e
compl-face (suc (suc i)) (a ∷ w) e = ap (λ x. not a ∷ x) (compl-face (suc i) w e)
