-- The simplicial identities on words: May, Simplicial Objects in Algebraic Topology, definition 1.1 and the normal form after it.
--
-- A simplicial operator is in one way s_w d_v with w strictly decreasing and v strictly increasing. Here faces and degeneracies act on
-- such forms from the left, and the record says that they obey the identities
--
--   d_i d_(j+1) = d_j d_i and s_i s_j = s_(j+1) s_i for i ≤ j,
--   d_i s_(j+1) = s_j d_i for i ≤ j,  d_j s_j = 1 = d_(j+1) s_j,  d_(i+1) s_j = s_j d_i for j < i
--
--   d_1 on s_0 d_2 is d_2:   face_of 1 of the word 0 ∷ [] and the faces 2 ∷ [] has the word [] and the faces 2 ∷ []
use Rattle.std.specs.Prelude.{◌≡◌, ℕ, suc, ◌<◌, ◌≤◌, ◌-◌, cond, nat_lt, List, [], ◌∷◌, length}
use Rattle.simp_ops.specs.Words.{IsWord, Passed, absorbed, through, IsPassed, degeneracy_word, compose_words, face_word}

-- s_word d_faces
pub record Operator : Type 0 where
  pub word : List ℕ
  pub faces : List ℕ

-- d_i before faces, by d_i d_k = d_k d_(i+1) for k ≤ i
abbrev pub before_faces : ℕ → List ℕ → List ℕ
before_faces i [] = i ∷ []
before_faces i (k ∷ v) = cond (nat_lt i k) (i ∷ (k ∷ v)) (k ∷ before_faces (suc i) v)

-- what a face left of a word, before faces
abbrev pub passed_to : Passed → List ℕ → Operator
passed_to (absorbed w) v = record { word = w; faces = v }
passed_to (through k w) v = record { word = w; faces = before_faces k v }

abbrev pub face_of : ℕ → Operator → Operator
face_of i o = passed_to (face_word i o.word) o.faces

abbrev pub degeneracy_of : ℕ → Operator → Operator
degeneracy_of j o = record { word = degeneracy_word j o.word; faces = o.faces }

-- the identities on operators whose word is below n
pub record WordIdentities (n : ℕ) : Type 0 where
  pub faces : (i j : ℕ) (o : Operator) → i ≤ j → face_of i (face_of (suc j) o) ≡ face_of j (face_of i o)
  pub degeneracies : (i j : ℕ) (o : Operator) → i ≤ j → degeneracy_of i (degeneracy_of j o) ≡ degeneracy_of (suc j) (degeneracy_of i o)
  pub face_below : (i j : ℕ) (o : Operator) → IsWord n o.word → i ≤ j → face_of i (degeneracy_of (suc j) o) ≡ degeneracy_of j (face_of i o)
  pub face_same : (j : ℕ) (o : Operator) → IsWord n o.word → face_of j (degeneracy_of j o) ≡ o
  pub face_next : (j : ℕ) (o : Operator) → IsWord n o.word → face_of (suc j) (degeneracy_of j o) ≡ o
  pub face_above : (i j : ℕ) (o : Operator) → IsWord n o.word → j < i → face_of (suc i) (degeneracy_of j o) ≡ degeneracy_of j (face_of i o)
  -- words stay words
  pub degeneracy_in : (j : ℕ) (w : List ℕ) → IsWord n w → j ≤ n → IsWord (suc n) (degeneracy_word j w)
  pub face_in : (i : ℕ) (w : List ℕ) → IsWord (suc n) w → i ≤ suc n → IsPassed n w (face_word i w)
  pub compose_in : (u v : List ℕ) → IsWord n u → IsWord (n - length u) v → IsWord n (compose_words u v)
  -- a word before a word is one before the other
  pub degeneracy_compose : (j : ℕ) (u v : List ℕ) → compose_words (degeneracy_word j u) v ≡ degeneracy_word j (compose_words u v)
  pub compose_compose : (u v w : List ℕ) → compose_words (compose_words u v) w ≡ compose_words u (compose_words v w)
