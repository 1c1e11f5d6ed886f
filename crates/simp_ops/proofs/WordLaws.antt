-- The identities of degeneracies and faces on words.
use Rattle.std.proofs.Common.{◌≡◌, ℕ, suc, ◌-◌, ◌<◌, ◌≤◌, cond, nat_le, subst, List, [], ◌∷◌, refl, sym, ◌∙◌, ap, arith, ◌⊎◌, inl, inr}
use Rattle.std.proofs.lemmas.Bool.{cases_lt}
use Rattle.simp_ops.specs.Words.{IsWord, degeneracy_word, face_word, Passed, absorbed, through, behind}
use Rattle.simp_ops.proofs.PlacesOf.{is_le, not_le, is_lt, word_below, degeneracy-before, face-behind, face-at, face-beyond}

pub stays : (i k : ℕ) (w : List ℕ) → k < i → degeneracy_word i (k ∷ w) ≡ i ∷ (k ∷ w)
stays i k w h = ap (λ b. cond b (suc k ∷ degeneracy_word i w) (i ∷ (k ∷ w))) (not_le i k h)

pub passes : (i k : ℕ) (w : List ℕ) → i ≤ k → degeneracy_word i (k ∷ w) ≡ suc k ∷ degeneracy_word i w
passes i k w h = ap (λ b. cond b (suc k ∷ degeneracy_word i w) (i ∷ (k ∷ w))) (is_le i k h)

-- s_i s_j is s_(j+1) s_i for i ≤ j
pub degeneracy-degeneracy : (i j : ℕ) (w : List ℕ) → i ≤ j → degeneracy_word i (degeneracy_word j w) ≡ degeneracy_word (suc j) (degeneracy_word i w)
degeneracy-degeneracy i j [] h = passes i j [] h ∙ sym (stays (suc j) i [] (omega arith))
degeneracy-degeneracy i j (k ∷ w) h = by (cases_lt k j) (cases_lt k i) (degeneracy-degeneracy i j w h)
  where
    by : (k < j) ⊎ (j ≤ k) → (k < i) ⊎ (i ≤ k) → degeneracy_word i (degeneracy_word j w) ≡ degeneracy_word (suc j) (degeneracy_word i w)
        → degeneracy_word i (degeneracy_word j (k ∷ w)) ≡ degeneracy_word (suc j) (degeneracy_word i (k ∷ w))
    by (inr g) c r =
        ap (degeneracy_word i) (passes j k w g) ∙ passes i (suc k) (degeneracy_word j w) (omega arith) ∙ ap (λ v. suc (suc k) ∷ v) r
        ∙ sym (ap (degeneracy_word (suc j)) (passes i k w (omega arith)) ∙ passes (suc j) (suc k) (degeneracy_word i w) (omega arith))
    by (inl g) (inl c) r =
        ap (degeneracy_word i) (stays j k w g) ∙ passes i j (k ∷ w) h ∙ ap (λ v. suc j ∷ v) (stays i k w c)
        ∙ sym (ap (degeneracy_word (suc j)) (stays i k w c) ∙ stays (suc j) i (k ∷ w) (omega arith))
    by (inl g) (inr c) r =
        ap (degeneracy_word i) (stays j k w g) ∙ passes i j (k ∷ w) h ∙ ap (λ v. suc j ∷ v) (passes i k w c)
        ∙ sym (ap (degeneracy_word (suc j)) (passes i k w c) ∙ stays (suc j) (suc k) (degeneracy_word i w) (omega arith))

-- d_j s_j is nothing
pub face-degeneracy : (j : ℕ) (w : List ℕ) → face_word j (degeneracy_word j w) ≡ absorbed w
face-degeneracy j [] = face-at j j [] (omega arith) (omega arith)
face-degeneracy j (i ∷ w) = by (cases_lt i j) (face-degeneracy j w)
  where
    by : (i < j) ⊎ (j ≤ i) → face_word j (degeneracy_word j w) ≡ absorbed w → face_word j (degeneracy_word j (i ∷ w)) ≡ absorbed (i ∷ w)
    by (inl h) r = ap (face_word j) (stays j i w h) ∙ face-at j j (i ∷ w) (omega arith) (omega arith)
    by (inr h) r = ap (face_word j) (passes j i w h) ∙ face-behind j i (degeneracy_word j w) (omega arith) ∙ ap (behind i) r

-- d_(j+1) s_j is nothing
pub face-next : (n j : ℕ) (w : List ℕ) → IsWord n w → face_word (suc j) (degeneracy_word j w) ≡ absorbed w
face-next n j [] is = face-at (suc j) j [] (omega arith) (omega arith)
face-next n j (k ∷ w) is = by (cases_lt k j) (cases_lt j k) (face-next k j w is.1)
  where
    by : (k < j) ⊎ (j ≤ k) → (j < k) ⊎ (k ≤ j) → face_word (suc j) (degeneracy_word j w) ≡ absorbed w → face_word (suc j) (degeneracy_word j (k ∷ w)) ≡ absorbed (k ∷ w)
    by (inl g) c r = ap (face_word (suc j)) (stays j k w g) ∙ face-at (suc j) j (k ∷ w) (omega arith) (omega arith)
    by (inr g) (inl c) r = ap (face_word (suc j)) (passes j k w g) ∙ face-behind (suc j) k (degeneracy_word j w) (omega arith) ∙ ap (behind k) r
    by (inr g) (inr c) r =
        let e : j ≡ k = omega arith in
        ap (face_word (suc j)) (passes j k w g) ∙ face-at (suc j) (suc k) (degeneracy_word j w) (omega arith) (omega arith)
        ∙ ap (λ i. absorbed (degeneracy_word i w)) e ∙ ap absorbed (degeneracy-before k w is.1)

-- ---- faces before a degeneracy before a word

abbrev pub before_passed : ℕ → Passed → Passed
before_passed j (absorbed v) = absorbed (degeneracy_word j v)
before_passed j (through k v) = through k (degeneracy_word j v)

abbrev pub IsPassedWord : ℕ → Passed → Type 0
IsPassedWord n (absorbed v) = IsWord n v
IsPassedWord n (through k v) = IsWord n v

before-behind : (j : ℕ) (p : Passed) → IsPassedWord j p → behind j p ≡ before_passed j p
before-behind j (absorbed v) is = ap absorbed (sym (degeneracy-before j v is))
before-behind j (through k v) is = ap (through k) (sym (degeneracy-before j v is))

passes-behind : (j k : ℕ) (p : Passed) → j ≤ k → before_passed j (behind k p) ≡ behind (suc k) (before_passed j p)
passes-behind j k (absorbed v) h = ap absorbed (passes j k v h)
passes-behind j k (through l v) h = ap (through l) (passes j k v h)

passed_behind : (n k : ℕ) (p : Passed) → k < n → IsPassedWord k p → IsPassedWord n (behind k p)
passed_behind n k (absorbed v) h is = (h, is)
passed_behind n k (through l v) h is = (h, is)

passed_below : (n m : ℕ) (p : Passed) → n ≤ m → IsPassedWord n p → IsPassedWord m p
passed_below n m (absorbed v) h is = word_below n m v h is
passed_below n m (through l v) h is = word_below n m v h is

pub face-lower : (i j : ℕ) (w : List ℕ) → i < j → face_word i (j ∷ w) ≡ behind (j - 1) (face_word i w)
face-lower i j w h = ap (λ b. cond b (behind (j - 1) (face_word i w)) (cond (nat_le i (suc j)) (absorbed w) (behind j (face_word (i - 1) w)))) (is_lt i j h)

-- a face keeps a word below n, and one in range leaves a word below n - 1
unfoldable pub FaceKeeps : ℕ → ℕ → List ℕ → Type 0
FaceKeeps n i w = IsPassedWord n (face_word i w) × ((m : ℕ) → n ≡ suc m → i ≤ suc m → IsPassedWord m (face_word i w))

pub face_keeps : (n i : ℕ) (w : List ℕ) → IsWord n w → FaceKeeps n i w
unfolding FaceKeeps
face_keeps n i [] is = (tt, λ m e h. tt)
face_keeps n i (k ∷ w) is = by (cases_lt i k) (cases_lt (suc k) i) (face_keeps k i w is.1) (face_keeps k (i - 1) w is.1)
  where
    b : k < n
    b = is.0

    by : (i < k) ⊎ (k ≤ i) → (suc k < i) ⊎ (i ≤ suc k)
        → IsPassedWord k (face_word i w) × ((m : ℕ) → k ≡ suc m → i ≤ suc m → IsPassedWord m (face_word i w))
        → IsPassedWord k (face_word (i - 1) w) × ((m : ℕ) → k ≡ suc m → i - 1 ≤ suc m → IsPassedWord m (face_word (i - 1) w))
        → IsPassedWord n (face_word i (k ∷ w)) × ((m : ℕ) → n ≡ suc m → i ≤ suc m → IsPassedWord m (face_word i (k ∷ w)))
    by (inl g) c r s =
        let e : k ≡ suc (k - 1) = omega arith in (
          subst (IsPassedWord n) (sym (face-lower i k w g)) (passed_behind n (k - 1) (face_word i w) (omega (arith, b)) (r.1 (k - 1) e (omega arith))),
          λ m f h. subst (IsPassedWord m) (sym (face-lower i k w g)) (passed_behind m (k - 1) (face_word i w) (omega (arith, b)) (r.1 (k - 1) e (omega arith))),
        )
    by (inr g) (inl c) r s = (
      subst (IsPassedWord n) (sym (face-beyond i k w c)) (passed_behind n k (face_word (i - 1) w) b s.0),
      λ m f h. subst (IsPassedWord m) (sym (face-beyond i k w c)) (passed_behind m k (face_word (i - 1) w) (omega arith) s.0),
    )
    by (inr g) (inr c) r s = (
      subst (IsPassedWord n) (sym (face-at i k w g c)) (word_below k n w (omega (arith, b)) is.1),
      λ m f h. subst (IsPassedWord m) (sym (face-at i k w g c)) (word_below k m w (omega (arith, b)) is.1),
    )

-- d_i s_(j+1) is s_j d_i for i ≤ j
pub face-below : (n i j : ℕ) (w : List ℕ) → IsWord n w → i ≤ j → face_word i (degeneracy_word (suc j) w) ≡ before_passed j (face_word i w)
unfolding FaceKeeps
face-below n i j [] is h = face-behind i j [] (omega arith)
face-below n i j (k ∷ w) is h = by (cases_lt k (suc j)) (face-below k i j w is.1 h)
  where
    kept : k < suc j → IsPassedWord j (face_word i (k ∷ w))
    kept g = (face_keeps (suc j) i (k ∷ w) (g, is.1)).1 j refl (omega arith)

    by : (k < suc j) ⊎ (suc j ≤ k) → face_word i (degeneracy_word (suc j) w) ≡ before_passed j (face_word i w) → face_word i (degeneracy_word (suc j) (k ∷ w)) ≡ before_passed j (face_word i (k ∷ w))
    by (inl g) r = ap (face_word i) (stays (suc j) k w g) ∙ face-behind i j (k ∷ w) (omega arith) ∙ before-behind j (face_word i (k ∷ w)) (kept g)
    by (inr g) r =
        let e : suc (k - 1) ≡ k = omega arith in
        ap (face_word i) (passes (suc j) k w g) ∙ face-behind i k (degeneracy_word (suc j) w) (omega arith) ∙ ap (behind k) r
        ∙ ap (λ l. behind l (before_passed j (face_word i w))) (sym e) ∙ sym (passes-behind j (k - 1) (face_word i w) (omega arith))
        ∙ ap (before_passed j) (sym (face-lower i k w (omega arith)))

-- d_(i+1) s_j is s_j d_i for j < i
pub face-above : (n i j : ℕ) (w : List ℕ) → IsWord n w → j < i → face_word (suc i) (degeneracy_word j w) ≡ before_passed j (face_word i w)
unfolding FaceKeeps
face-above n i j [] is h =
    let e : suc i - 1 ≡ i = omega arith in
    face-beyond (suc i) j [] (omega arith) ∙ ap (λ k. behind j (face_word k [])) e
face-above n i j (k ∷ w) is h = by (cases_lt k j) (cases_lt i k) (cases_lt (suc k) i) (λ g. face-above k i j w is.1 g) (λ g. face-above k (i - 1) j w is.1 g)
  where
    back : suc i - 1 ≡ i
    back = omega arith

    by : (k < j) ⊎ (j ≤ k) → (i < k) ⊎ (k ≤ i) → (suc k < i) ⊎ (i ≤ suc k)
        → (j < i → face_word (suc i) (degeneracy_word j w) ≡ before_passed j (face_word i w))
        → (j < i - 1 → face_word (suc (i - 1)) (degeneracy_word j w) ≡ before_passed j (face_word (i - 1) w))
        → face_word (suc i) (degeneracy_word j (k ∷ w)) ≡ before_passed j (face_word i (k ∷ w))
    by (inl g) c d r s =
        ap (face_word (suc i)) (stays j k w g) ∙ face-beyond (suc i) j (k ∷ w) (omega arith) ∙ ap (λ m. behind j (face_word m (k ∷ w))) back
        ∙ before-behind j (face_word i (k ∷ w)) (face_keeps j i (k ∷ w) (g, is.1)).0
    by (inr g) (inl c) d r s =
        let e : suc (k - 1) ≡ k = omega arith in
        ap (face_word (suc i)) (passes j k w g) ∙ face-behind (suc i) k (degeneracy_word j w) (omega arith) ∙ ap (behind k) (r h)
        ∙ ap (λ l. behind l (before_passed j (face_word i w))) (sym e) ∙ sym (passes-behind j (k - 1) (face_word i w) (omega arith))
        ∙ ap (before_passed j) (sym (face-lower i k w c))
    by (inr g) (inr c) (inr d) r s =
        ap (face_word (suc i)) (passes j k w g) ∙ face-at (suc i) (suc k) (degeneracy_word j w) (omega arith) (omega arith)
        ∙ ap (before_passed j) (sym (face-at i k w c d))
    by (inr g) (inr c) (inl d) r s =
        let e : i ≡ suc (i - 1) = omega arith in
        ap (face_word (suc i)) (passes j k w g) ∙ face-beyond (suc i) (suc k) (degeneracy_word j w) (omega arith)
        ∙ ap (λ m. behind (suc k) (face_word m (degeneracy_word j w))) (back ∙ e) ∙ ap (behind (suc k)) (s (omega arith))
        ∙ sym (passes-behind j k (face_word (i - 1) w) g) ∙ ap (before_passed j) (sym (face-beyond i k w d))
