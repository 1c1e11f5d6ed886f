-- A word of degeneracies before a simplex of any simplicial set, the last degeneracy of the word first (May, Simplicial Objects in
-- Algebraic Topology, chapter I, 1).
--
--   the word 2 ∷ 0 ∷ [] before x is s_2 (s_0 x)
use Rattle.std.specs.Prelude.{◌≡◌, ℕ, ◌+◌, ◌≤◌, List, [], ◌∷◌, length}
use Rattle.simp_ops.specs.Words.{IsWord, Passed, absorbed, through, degeneracy_word, compose_words, face_word}
use Rattle.spaces.specs.Simplicial.{Simplicial}

abbrev pub degenerated : {K : Type 0} → Simplicial K → List ℕ → K → K
degenerated X [] x = x
degenerated X (j ∷ w) x = X.degeneracy j (degenerated X w x)

-- what a face becomes that has met a word, before a simplex
abbrev pub passed_on : {K : Type 0} → Simplicial K → Passed → K → K
passed_on X (absorbed v) x = degenerated X v x
passed_on X (through j v) x = degenerated X v (X.face j x)

-- Words before simplices follow the simplicial identities: on a simplex x of degree m and a strictly decreasing word w, a degeneracy, a
-- word or a face before w before x is what it makes of w, before x.
pub record WordsAct {K : Type 0} (X : Simplicial K) : Type 0 where
  pub simplex : (m : ℕ) (w : List ℕ) (x : K) → X.In m x → IsWord (m + length w) w → X.In (m + length w) (degenerated X w x)
  pub degeneracy : (m j : ℕ) (w : List ℕ) (x : K) → X.In m x → IsWord (m + length w) w → j ≤ m + length w
      → X.degeneracy j (degenerated X w x) ≡ degenerated X (degeneracy_word j w) x
  pub compose : (m : ℕ) (c r : List ℕ) (x : K) → X.In m x → IsWord (m + length r) r → IsWord (m + length r + length c) c
      → degenerated X c (degenerated X r x) ≡ degenerated X (compose_words c r) x
  pub face : (m i : ℕ) (w : List ℕ) (x : K) → X.In m x → IsWord (m + length w) w → i ≤ m + length w
      → X.face i (degenerated X w x) ≡ passed_on X (face_word i w) x
