-- The simplicial identities on operators s_w d_v.
use Rattle.std.proofs.Common.{◌≡◌, ℕ, zero, suc, ◌+◌, ◌-◌, ◌<◌, ◌≤◌, cond, List, [], ◌∷◌, length, refl, sym, ◌∙◌, ap, subst, arith, ◌⊎◌, inl, inr}
use Rattle.std.proofs.lemmas.Bool.{cases_lt}
use Rattle.simp_ops.specs.Words.{IsWord, degeneracy_word, compose_words, face_word, Passed, absorbed, through, behind, IsPassed}
use Rattle.simp_ops.specs.Operators.{Operator, before_faces, passed_to, face_of, degeneracy_of, WordIdentities}
use Rattle.simp_ops.proofs.PlacesOf.{is_lt, not_lt, word_below, face-at, face-beyond}
use Rattle.simp_ops.proofs.WordLaws.{stays, passes, degeneracy-degeneracy, face-degeneracy, face-next, face-below, face-above, face-lower, before_passed, IsPassedWord, FaceKeeps, face_keeps}

-- ---- two faces

before-stays : (i k : ℕ) (v : List ℕ) → i < k → before_faces i (k ∷ v) ≡ i ∷ (k ∷ v)
before-stays i k v h = ap (λ b. cond b (i ∷ (k ∷ v)) (k ∷ before_faces (suc i) v)) (is_lt i k h)

before-passes : (i k : ℕ) (v : List ℕ) → k ≤ i → before_faces i (k ∷ v) ≡ k ∷ before_faces (suc i) v
before-passes i k v h = ap (λ b. cond b (i ∷ (k ∷ v)) (k ∷ before_faces (suc i) v)) (not_lt i k h)

before-before : (i j : ℕ) (v : List ℕ) → i ≤ j → before_faces i (before_faces (suc j) v) ≡ before_faces j (before_faces i v)
before-before i j [] h = before-stays i (suc j) [] (omega arith) ∙ sym (before-passes j i [] h)
before-before i j (k ∷ v) h = by (cases_lt (suc j) k) (cases_lt i k) (before-before (suc i) (suc j) v (omega arith))
  where
    by : (suc j < k) ⊎ (k ≤ suc j) → (i < k) ⊎ (k ≤ i) → before_faces (suc i) (before_faces (suc (suc j)) v) ≡ before_faces (suc j) (before_faces (suc i) v)
        → before_faces i (before_faces (suc j) (k ∷ v)) ≡ before_faces j (before_faces i (k ∷ v))
    by (inl g) c r =
        ap (before_faces i) (before-stays (suc j) k v g) ∙ before-stays i (suc j) (k ∷ v) (omega arith) ∙ ap (λ l. i ∷ l) (sym (before-stays (suc j) k v g))
        ∙ sym (ap (before_faces j) (before-stays i k v (omega arith)) ∙ before-passes j i (k ∷ v) h)
    by (inr g) (inl c) r =
        ap (before_faces i) (before-passes (suc j) k v g) ∙ before-stays i k (before_faces (suc (suc j)) v) c ∙ ap (λ l. i ∷ l) (sym (before-passes (suc j) k v g))
        ∙ sym (ap (before_faces j) (before-stays i k v c) ∙ before-passes j i (k ∷ v) h)
    by (inr g) (inr c) r =
        ap (before_faces i) (before-passes (suc j) k v g) ∙ before-passes i k (before_faces (suc (suc j)) v) c ∙ ap (λ l. k ∷ l) r
        ∙ sym (ap (before_faces j) (before-passes i k v c) ∙ before-passes j k (before_faces (suc i) v) (omega arith))

-- s_k before an operator, where k is above its word
abbrev after : ℕ → Operator → Operator
after k o = record { word = k ∷ o.word; faces = o.faces }

passed-behind : (k : ℕ) (p : Passed) (v : List ℕ) → passed_to (behind k p) v ≡ after k (passed_to p v)
passed-behind k (absorbed w) v = refl
passed-behind k (through l w) v = refl

face-after_lower : (i k : ℕ) (o : Operator) → i < k → face_of i (after k o) ≡ after (k - 1) (face_of i o)
face-after_lower i k o h = ap (λ p. passed_to p o.faces) (face-lower i k o.word h) ∙ passed-behind (k - 1) (face_word i o.word) o.faces

face-after_at : (i k : ℕ) (o : Operator) → k ≤ i → i ≤ suc k → face_of i (after k o) ≡ o
face-after_at i k o h l = ap (λ p. passed_to p o.faces) (face-at i k o.word h l)

face-after_beyond : (i k : ℕ) (o : Operator) → suc k < i → face_of i (after k o) ≡ after k (face_of (i - 1) o)
face-after_beyond i k o h = ap (λ p. passed_to p o.faces) (face-beyond i k o.word h) ∙ passed-behind k (face_word (i - 1) o.word) o.faces

-- the identity at an operator
FacesSwap : Operator → Type 0
FacesSwap o = (i j : ℕ) → i ≤ j → face_of i (face_of (suc j) o) ≡ face_of j (face_of i o)

faces_after : (k : ℕ) (o : Operator) → FacesSwap o → FacesSwap (after k o)
unfolding FacesSwap
faces_after k o r i j h = by (cases_lt (suc j) k) (cases_lt k j) (cases_lt i k) (cases_lt (suc k) i)
  where
    by : (suc j < k) ⊎ (k ≤ suc j) → (k < j) ⊎ (j ≤ k) → (i < k) ⊎ (k ≤ i) → (suc k < i) ⊎ (i ≤ suc k)
        → face_of i (face_of (suc j) (after k o)) ≡ face_of j (face_of i (after k o))
    by (inl a) b c d =
        ap (face_of i) (face-after_lower (suc j) k o a) ∙ face-after_lower i (k - 1) (face_of (suc j) o) (omega arith) ∙ ap (after (k - 1 - 1)) (r i j h)
        ∙ sym (ap (face_of j) (face-after_lower i k o (omega arith)) ∙ face-after_lower j (k - 1) (face_of i o) (omega arith))
    by (inr a) (inr b) (inl c) d =
        ap (face_of i) (face-after_at (suc j) k o a (omega arith))
        ∙ sym (ap (face_of j) (face-after_lower i k o c) ∙ face-after_at j (k - 1) (face_of i o) (omega arith) (omega arith))
    by (inr a) (inr b) (inr c) d =
        let e : i ≡ j = omega arith in
        ap (face_of i) (face-after_at (suc j) k o a (omega arith)) ∙ ap (λ l. face_of l o) e
        ∙ sym (ap (face_of j) (face-after_at i k o c (omega arith)))
    by (inr a) (inl b) (inl c) d =
        let e : suc j - 1 ≡ suc (j - 1) = omega arith in
        ap (face_of i) (face-after_beyond (suc j) k o (omega arith) ∙ ap (λ l. after k (face_of l o)) e)
        ∙ face-after_lower i k (face_of (suc (j - 1)) o) c ∙ ap (after (k - 1)) (r i (j - 1) (omega arith))
        ∙ sym (ap (face_of j) (face-after_lower i k o c) ∙ face-after_beyond j (k - 1) (face_of i o) (omega arith))
    by (inr a) (inl b) (inr c) (inr d) =
        ap (face_of i) (face-after_beyond (suc j) k o (omega arith)) ∙ face-after_at i k (face_of (suc j - 1) o) c d
        ∙ ap (λ l. face_of l o) (omega arith) ∙ sym (ap (face_of j) (face-after_at i k o c d))
    by (inr a) (inl b) (inr c) (inl d) =
        let e : suc j - 1 ≡ suc (j - 1) = omega arith in
        ap (face_of i) (face-after_beyond (suc j) k o (omega arith) ∙ ap (λ l. after k (face_of l o)) e)
        ∙ face-after_beyond i k (face_of (suc (j - 1)) o) d ∙ ap (after k) (r (i - 1) (j - 1) (omega arith))
        ∙ sym (ap (face_of j) (face-after_beyond i k o d) ∙ face-after_beyond j k (face_of (i - 1) o) (omega arith))

-- d_i d_(j+1) is d_j d_i for i ≤ j
faces_swap : (w v : List ℕ) → FacesSwap (record { word = w; faces = v })
unfolding FacesSwap
faces_swap [] v = λ i j h. ap (λ f. record { word = []; faces = f }) (before-before i j v h)
faces_swap (k ∷ w) v = λ i j h. faces_after k (record { word = w; faces = v }) (faces_swap w v) i j h

pub face-face : (i j : ℕ) (o : Operator) → i ≤ j → face_of i (face_of (suc j) o) ≡ face_of j (face_of i o)
unfolding FacesSwap
face-face i j o h = faces_swap o.word o.faces i j h

-- ---- a face before a degeneracy

passed-before : (j : ℕ) (p : Passed) (v : List ℕ) → passed_to (before_passed j p) v ≡ degeneracy_of j (passed_to p v)
passed-before j (absorbed w) v = refl
passed-before j (through k w) v = refl

-- ---- words stay words

pub degeneracy_in : (n j : ℕ) (w : List ℕ) → IsWord n w → j ≤ n → IsWord (suc n) (degeneracy_word j w)
degeneracy_in n j [] is h = (omega arith, tt)
degeneracy_in n j (k ∷ w) is h = by (cases_lt k j) (degeneracy_in k j w is.1)
  where
    b : k < n
    b = is.0

    by : (k < j) ⊎ (j ≤ k) → (j ≤ k → IsWord (suc k) (degeneracy_word j w)) → IsWord (suc n) (degeneracy_word j (k ∷ w))
    by (inl g) r = subst (IsWord (suc n)) (sym (stays j k w g)) (omega arith, (g, is.1))
    by (inr g) r = subst (IsWord (suc n)) (sym (passes j k w g)) (omega (arith, b), r g)

pub compose_in : (n : ℕ) (u v : List ℕ) → IsWord n u → IsWord (n - length u) v → IsWord n (compose_words u v)
compose_in n [] v is js = let e : n - 0 ≡ n = omega arith in subst (λ m. IsWord m v) e js
compose_in zero (j ∷ u) v is js = absurd (omega (arith, is.0))
compose_in (suc n) (j ∷ u) v is js =
    let b : j < suc n = is.0 in
    let e : suc n - suc (length u) ≡ n - length u = omega arith in
    degeneracy_in n j (compose_words u v) (compose_in n u v (word_below j n u (omega (arith, b)) is.1) (subst (λ m. IsWord m v) e js)) (omega (arith, b))

-- what a face leaves of a word below m, where the face and the word are below a bound
IsLeft : ℕ → List ℕ → Passed → Type 0
IsLeft b w (absorbed v) = suc (length v) ≡ length w
IsLeft b w (through k v) = (length v ≡ length w) × (k + length w ≤ b)

left_behind : (b c k : ℕ) (w : List ℕ) (p : Passed) → b < c → IsLeft b w p → (l : ℕ) → IsLeft c (k ∷ w) (behind l p)
unfolding IsLeft
left_behind b c k w (absorbed v) h is l = ap suc is
left_behind b c k w (through i v) h is l = (ap suc is.0, omega (arith, is.1))

left_of : (m i b : ℕ) (w : List ℕ) → IsWord m w → i ≤ b → m ≤ b → IsLeft b w (face_word i w)
unfolding IsLeft
left_of m i b [] is h l = (refl, omega arith)
left_of m i b (k ∷ w) is h l = by (cases_lt i k) (cases_lt (suc k) i) (left_of k i k w is.1) (left_of k (i - 1) (b - 1) w is.1)
  where
    u : k < m
    u = is.0

    by : (i < k) ⊎ (k ≤ i) → (suc k < i) ⊎ (i ≤ suc k) → (i ≤ k → k ≤ k → IsLeft k w (face_word i w)) → (i - 1 ≤ b - 1 → k ≤ b - 1 → IsLeft (b - 1) w (face_word (i - 1) w))
        → IsLeft b (k ∷ w) (face_word i (k ∷ w))
    by (inl g) c r s = subst (IsLeft b (k ∷ w)) (sym (face-lower i k w g)) (left_behind k b k w (face_word i w) (omega (arith, u)) (r (omega arith) (omega arith)) (k - 1))
    by (inr g) (inl c) r s = subst (IsLeft b (k ∷ w)) (sym (face-beyond i k w c)) (left_behind (b - 1) b k w (face_word (i - 1) w) (omega (arith, u)) (s (omega arith) (omega (arith, u))) k)
    by (inr g) (inr c) r s = subst (IsLeft b (k ∷ w)) (sym (face-at i k w g c)) refl

passed_in : (n : ℕ) (w : List ℕ) (p : Passed) → IsPassedWord n p → IsLeft (suc n) w p → IsPassed n w p
unfolding IsLeft
passed_in n w (absorbed v) is left = (is, left)
passed_in n w (through k v) is left = (is, left.0, left.1)

pub face_in : (n i : ℕ) (w : List ℕ) → IsWord (suc n) w → i ≤ suc n → IsPassed n w (face_word i w)
unfolding FaceKeeps
face_in n i w is h = passed_in n w (face_word i w) ((face_keeps (suc n) i w is).1 n refl h) (left_of (suc n) i (suc n) w is h (omega arith))

-- ---- words before words

pub degeneracy-compose : (j : ℕ) (u v : List ℕ) → compose_words (degeneracy_word j u) v ≡ degeneracy_word j (compose_words u v)
degeneracy-compose j [] v = refl
degeneracy-compose j (k ∷ u) v = by (cases_lt k j) (degeneracy-compose j u v)
  where
    by : (k < j) ⊎ (j ≤ k) → compose_words (degeneracy_word j u) v ≡ degeneracy_word j (compose_words u v)
        → compose_words (degeneracy_word j (k ∷ u)) v ≡ degeneracy_word j (degeneracy_word k (compose_words u v))
    by (inl g) r = ap (λ w. compose_words w v) (stays j k u g)
    by (inr g) r = ap (λ w. compose_words w v) (passes j k u g) ∙ ap (degeneracy_word (suc k)) r ∙ sym (degeneracy-degeneracy j k (compose_words u v) g)

pub compose-compose : (u v w : List ℕ) → compose_words (compose_words u v) w ≡ compose_words u (compose_words v w)
compose-compose [] v w = refl
compose-compose (j ∷ u) v w = degeneracy-compose j (compose_words u v) w ∙ ap (degeneracy_word j) (compose-compose u v w)

-- ---- the record

pub identities : (n : ℕ) → WordIdentities n
identities n = record {
  faces = face-face;
  degeneracies = λ i j o h. ap (λ w. record { word = w; faces = o.faces }) (degeneracy-degeneracy i j o.word h);
  face_below = λ i j o is h. ap (λ p. passed_to p o.faces) (face-below n i j o.word is h) ∙ passed-before j (face_word i o.word) o.faces;
  face_same = λ j o is. ap (λ p. passed_to p o.faces) (face-degeneracy j o.word);
  face_next = λ j o is. ap (λ p. passed_to p o.faces) (face-next n j o.word is);
  face_above = λ i j o is h. ap (λ p. passed_to p o.faces) (face-above n i j o.word is h) ∙ passed-before j (face_word i o.word) o.faces;
  degeneracy_in = degeneracy_in n;
  face_in = face_in n;
  compose_in = compose_in n;
  degeneracy_compose = degeneracy-compose;
  compose_compose = compose-compose;
}
