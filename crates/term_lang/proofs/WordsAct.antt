-- Words of degeneracies before the simplices of any simplicial set: how degeneracies, words and faces meet them.
use Rattle.std.proofs.Common.{◌≡◌, ℕ, suc, ◌+◌, ◌-◌, ◌<◌, ◌≤◌, cond, nat_le, nat_lt, List, [], ◌∷◌, length, refl, sym, ◌∙◌, ap, subst, arith, ◌⊎◌, inl, inr}
use Rattle.std.proofs.lemmas.Bool.{cases_lt}
use Rattle.simp_ops.specs.Words.{IsWord, degeneracy_word, compose_words, face_word, Passed, absorbed, through, behind}
use Rattle.simp_ops.proofs.PlacesOf.{word_below, is_le, not_le, is_lt, not_lt}
use Rattle.simp_ops.proofs.OperatorLaws.{compose_in}
use Rattle.spaces.specs.Simplicial.{Simplicial, IsSimplicial}
use Rattle.spaces.proofs.WordLaws.{length-compose}
use Rattle.term_lang.specs.Degenerated.{degenerated, passed_on, WordsAct}

module _ {K : Type 0} (X : Simplicial K) (laws : IsSimplicial X) where
  pub degenerated_in : (m : ℕ) (w : List ℕ) (x : K) → X.In m x → IsWord (m + length w) w → X.In (m + length w) (degenerated X w x)
  degenerated_in m [] x is ws = let e : m ≡ m + 0 = omega arith in subst (λ n. X.In n x) e is
  degenerated_in m (j ∷ w) x is ws =
      let e : suc (m + length w) ≡ m + suc (length w) = omega arith in
      let b : j ≤ m + length w = omega (arith, ws.0) in
      subst (λ n. X.In n (X.degeneracy j (degenerated X w x))) e
      (laws.degeneracy_in (m + length w) j (degenerated X w x) (degenerated_in m w x is (word_below j (m + length w) w b ws.1)) b)

  -- s_j before a word is the word that the identities give
  pub degenerated-degeneracy : (m j : ℕ) (w : List ℕ) (x : K) → X.In m x → IsWord (m + length w) w → j ≤ m + length w
      → X.degeneracy j (degenerated X w x) ≡ degenerated X (degeneracy_word j w) x
  degenerated-degeneracy m j [] x is ws h = refl
  degenerated-degeneracy m j (k ∷ w) x is ws h = by (cases_lt k j) (λ g. degenerated-degeneracy m j w x is inner g)
    where
      b : k ≤ m + length w
      b = omega (arith, ws.0)

      inner : IsWord (m + length w) w
      inner = word_below k (m + length w) w b ws.1

      by : (k < j) ⊎ (j ≤ k) → (j ≤ m + length w → X.degeneracy j (degenerated X w x) ≡ degenerated X (degeneracy_word j w) x)
          → X.degeneracy j (X.degeneracy k (degenerated X w x)) ≡ degenerated X (degeneracy_word j (k ∷ w)) x
      by (inl g) r = ap (λ t. degenerated X (cond t (suc k ∷ degeneracy_word j w) (j ∷ (k ∷ w))) x) (sym (not_le j k g))
      by (inr g) r =
          laws.degeneracy_degeneracy (m + length w) j k (degenerated X w x) (degenerated_in m w x is inner) g b
          ∙ ap (X.degeneracy (suc k)) (r (omega (arith, b)))
          ∙ ap (λ t. degenerated X (cond t (suc k ∷ degeneracy_word j w) (j ∷ (k ∷ w))) x) (sym (is_le j k g))

module _ {K : Type 0} (X : Simplicial K) (laws : IsSimplicial X) where
  pub degenerated-compose : (m : ℕ) (c r : List ℕ) (x : K) → X.In m x → IsWord (m + length r) r → IsWord (m + length r + length c) c
      → degenerated X c (degenerated X r x) ≡ degenerated X (compose_words c r) x
  degenerated-compose m [] r x is ir ic = refl
  degenerated-compose m (j ∷ c) r x is ir ic =
      let b : j ≤ m + length r + length c = omega (arith, ic.0) in
      let inner : IsWord (m + length r + length c) c = word_below j (m + length r + length c) c b ic.1 in
      let e : m + length r + length c ≡ m + length (compose_words c r) = omega (arith, length-compose c r) in
      let f : m + length r ≡ m + length r + length c - length c = omega arith in
      ap (X.degeneracy j) (degenerated-compose m c r x is ir inner)
      ∙ degenerated-degeneracy X laws m j (compose_words c r) x is (subst (λ n. IsWord n (compose_words c r)) e (compose_in (m + length r + length c) c r inner (subst (λ n. IsWord n r) f ir))) (omega (arith, b, e))

-- ---- faces before words

module _ {K : Type 0} (X : Simplicial K) (laws : IsSimplicial X) where
  behind-is : (j : ℕ) (p : Passed) (x : K) → X.degeneracy j (passed_on X p x) ≡ passed_on X (behind j p) x
  behind-is j (absorbed v) x = refl
  behind-is j (through k v) x = refl

  -- d_i s_w is what `face_word` says
  pub face-degenerated : (m i : ℕ) (w : List ℕ) (x : K) → X.In m x → IsWord (m + length w) w → i ≤ m + length w → X.face i (degenerated X w x) ≡ passed_on X (face_word i w) x
  face-degenerated m i [] x is ws h = refl
  face-degenerated m i (j ∷ w) x is ws h = by (cases_lt i j) (cases_lt (suc j) i) (cases_lt j i) (λ g. face-degenerated m i w x is inner g) (λ g. face-degenerated m (i - 1) w x is inner g)
    where
      b : j ≤ m + length w
      b = omega (arith, ws.0)

      inner : IsWord (m + length w) w
      inner = word_below j (m + length w) w b ws.1

      y : X.In (m + length w) (degenerated X w x)
      y = degenerated_in X laws m w x is inner

      by : (i < j) ⊎ (j ≤ i) → (suc j < i) ⊎ (i ≤ suc j) → (j < i) ⊎ (i ≤ j)
          → (i ≤ m + length w → X.face i (degenerated X w x) ≡ passed_on X (face_word i w) x)
          → (i - 1 ≤ m + length w → X.face (i - 1) (degenerated X w x) ≡ passed_on X (face_word (i - 1) w) x)
          → X.face i (X.degeneracy j (degenerated X w x)) ≡ passed_on X (cond (nat_lt i j) (behind (j - 1) (face_word i w)) (cond (nat_le i (suc j)) (absorbed w) (behind j (face_word (i - 1) w)))) x
      by (inl g) c d r s =
          let e : j ≡ suc (j - 1) = omega arith in
          ap (λ k. X.face i (X.degeneracy k (degenerated X w x))) e
          ∙ laws.face_below (m + length w) i (j - 1) (degenerated X w x) y (omega arith) (omega (arith, b))
          ∙ ap (X.degeneracy (j - 1)) (r (omega (arith, b))) ∙ behind-is (j - 1) (face_word i w) x
          ∙ ap (λ t. passed_on X (cond t (behind (j - 1) (face_word i w)) (cond (nat_le i (suc j)) (absorbed w) (behind j (face_word (i - 1) w)))) x) (sym (is_lt i j g))
      by (inr g) (inl c) d r s =
          let e : i ≡ suc (i - 1) = omega arith in
          ap (λ k. X.face k (X.degeneracy j (degenerated X w x))) e
          ∙ laws.face_above (m + length w) (i - 1) j (degenerated X w x) y (omega arith) (omega (arith, h))
          ∙ ap (X.degeneracy j) (s (omega (arith, h))) ∙ behind-is j (face_word (i - 1) w) x
          ∙ ap (λ t. passed_on X (cond t (absorbed w) (behind j (face_word (i - 1) w))) x) (sym (not_le i (suc j) c))
          ∙ ap (λ t. passed_on X (cond t (behind (j - 1) (face_word i w)) (cond (nat_le i (suc j)) (absorbed w) (behind j (face_word (i - 1) w)))) x) (sym (not_lt i j g))
      by (inr g) (inr c) d r s =
          here d
          ∙ ap (λ t. passed_on X (cond t (absorbed w) (behind j (face_word (i - 1) w))) x) (sym (is_le i (suc j) c))
          ∙ ap (λ t. passed_on X (cond t (behind (j - 1) (face_word i w)) (cond (nat_le i (suc j)) (absorbed w) (behind j (face_word (i - 1) w)))) x) (sym (not_lt i j g))
        where
          here : (j < i) ⊎ (i ≤ j) → X.face i (X.degeneracy j (degenerated X w x)) ≡ degenerated X w x
          here (inl l) = let e : i ≡ suc j = omega arith in ap (λ k. X.face k (X.degeneracy j (degenerated X w x))) e ∙ laws.face_next (m + length w) j (degenerated X w x) y b
          here (inr l) = let e : i ≡ j = omega arith in ap (λ k. X.face k (X.degeneracy j (degenerated X w x))) e ∙ laws.face_here (m + length w) j (degenerated X w x) y b

pub words_act : {K : Type 0} (X : Simplicial K) → IsSimplicial X → WordsAct X
words_act X laws = record {
  simplex = degenerated_in X laws;
  degeneracy = degenerated-degeneracy X laws;
  compose = degenerated-compose X laws;
  face = face-degenerated X laws;
}
