-- The faces of words of the code (Kan; May, Simplicial Objects in Algebraic Topology, chapter VI, 26).
--
-- The face d_i, for i at least 1, makes a letter y into d_(i+1) y. The face d_0 makes a letter y into the inverse of d_0 y and then d_1 y,
-- and an inverse letter y into the inverse of d_1 y and then d_0 y. What they make is reduced.
--
--   d_1 of the word [s_2 x, s_1 x] of degree 2 is [x, x], and d_0 of the inverse of [y] is the inverse of d_1 y and then d_0 y
use Rattle.std.specs.Prelude.{◌≡◌, ℕ, zero, suc, ◌-◌, ◌<◌, ◌≤◌, true, false, List, [], ◌∷◌, map}
use Rattle.spaces.specs.Simplicial.{Simplicial}
use Rattle.spaces.specs.Spaces.{Space, set_of}
use Rattle.spaces.specs.LoopGroups.{Letter as PlainLetter, first_face}
use Rattle.cells.specs.declared.cells.Letter.{Letter}
use Rattle.cells.specs.declared.cells.Simplex.{Simplex}
use Rattle.cells.specs.Dim.{degree_of}
use Rattle.term_lang.specs.Belongs.{IsSimplex}
use Rattle.loop_words.specs.LetterWords.{word_before, reduced}
use Rattle.loop_words.specs.WordForms.{word_form, Every, AreLetters}

-- the letters that a face makes of the letters of a word, before they are reduced
abbrev pub letter_faces : {K : Type 0} (A : Simplicial K) → ℕ → List (PlainLetter A) → List (PlainLetter A)
letter_faces A zero w = first_face A w
letter_faces A (suc i) w = map (λ l. (l.0, A.face (suc (suc i)) l.1)) w

-- a simplex of the space, of degree at least 2, of which d_i can be asked as a letter
pub record IsFaced (a : Space) (has_faces : Simplex → Type 0) (i : ℕ) (x : Simplex) : Type 0 where
  pub simplex : IsSimplex a (degree_of x) x
  pub positive : 2 ≤ degree_of x
  pub index : i < degree_of x
  pub within : has_faces x

-- the simplices of the letters have degree n + 1
abbrev pub HaveDegree : ℕ → List Letter → Type 0
HaveDegree n w = Every (λ x. degree_of x ≡ suc n) w

-- the letters are what the face d_i makes of those of w, in the space
pub record AreFaces (a : Space) (i : ℕ) (w faces : List Letter) : Type 0 where
  pub plain_are : word_form a faces ≡ letter_faces (set_of a) i (word_form a w)
  pub letters : (n : ℕ) → 1 ≤ n → HaveDegree n w → AreLetters a (n - 1) faces

-- y is the face d_i of the word w
pub record IsWordFace (a : Space) (i : ℕ) (w y : List Letter) : Type 0 where
  pub faces : List Letter
  pub are_faces : AreFaces a i w faces
  pub reduces : y ≡ reduced faces

-- what the face d_i makes of a letter, before a reduced word
pub record PutsFaces (a : Space) (i : ℕ) (l : Letter) (old new : List Letter) : Type 0 where
  pub faces : List Letter
  pub are_faces : AreFaces a i (l ∷ []) faces
  pub put : new ≡ word_before faces old

-- the inverse of one simplex and then another
abbrev pub pair_of : Simplex → Simplex → List Letter
pair_of x y = record { inverse = true; simplex = x } ∷ (record { inverse = false; simplex = y } ∷ [])
