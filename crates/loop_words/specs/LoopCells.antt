-- The cells of a loop group as the code has them: words of letters (Kan; May, Simplicial Objects in Algebraic Topology, chapter VI, 26).
--
-- A cell of dimension n is a reduced word of letters of degree n + 1 that have no place above 0 in common.
--
--   of the loop group of the 2-sphere the words [S2] and [S2 S2] are cells of dimension 1, and [] is the one of dimension 0
use Rattle.std.specs.Prelude.{◌≡◌, ℕ, false, List}
use Rattle.spaces.specs.Spaces.{Space}
use Rattle.cells.specs.declared.cells.Cell.{Cell}
use Rattle.cells.specs.declared.cells.Cell.TheVariants.{Word}
use Rattle.cells.specs.declared.cells.Letter.{Letter}
use Rattle.term_lang.specs.Belongs.{shares_place}
use Rattle.loop_words.specs.LetterWords.{IsReduced}
use Rattle.loop_words.specs.WordForms.{AreLetters}

pub record IsWordCell (a : Space) (n : ℕ) (c : Cell) : Type 0 where
  pub letters : List Letter
  pub is : c ≡ Word letters
  pub are_letters : AreLetters a n letters
  pub reduced : IsReduced letters
  pub shares_none : shares_place n letters ≡ false
