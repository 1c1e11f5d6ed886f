-- The plain form of a word of letters in a space, and which words have letters of the space (Kan; May, Simplicial Objects in Algebraic
-- Topology, chapter VI, 26).
--
-- A word of degree n of the loop group of a space has letters that are simplices of the space of degree n + 1.
--
--   in the loop group of the 2-sphere the word [S2] of degree 1 has the form of one letter
use Rattle.std.specs.Prelude.{ℕ, suc, ◌≤◌, Bool, List, [], ◌∷◌, map}
use Rattle.spaces.specs.Simplicial.{IsSimplicial}
use Rattle.spaces.specs.Spaces.{Space, Plain, set_of}
use Rattle.cells.specs.declared.cells.Letter.{Letter}
use Rattle.cells.specs.declared.cells.Simplex.{Simplex}
use Rattle.term_lang.specs.Belongs.{IsSimplex}
use Rattle.term_lang.specs.Forms.{letter_form}
use Rattle.term_lang.specs.NormalForms.{HasNormalForms}
use Rattle.oracle_iface.specs.KeyLaws.{HasCells}

abbrev pub word_form : (a : Space) → List Letter → List (Bool × Plain a)
word_form a w = map (λ l. letter_form l a) w

-- the simplex of each letter has the property
abbrev pub Every : (Simplex → Type 0) → List Letter → Type 0
Every P [] = Unit {0}
Every P (l ∷ w) = P l.simplex × Every P w

-- the letters of a word of degree n
abbrev pub AreLetters : Space → ℕ → List Letter → Type 0
AreLetters a n w = Every (IsSimplex a (suc n)) w

-- what is known of a space, so that its simplices of degree n + 1 are letters: they have normal forms
pub record HasLetters (a : Space) (n : ℕ) : Type 0 where
  pub low : suc n ≤ 32
  pub laws : IsSimplicial (set_of a)
  pub cells : HasCells a
  pub forms : HasNormalForms a (suc n)
