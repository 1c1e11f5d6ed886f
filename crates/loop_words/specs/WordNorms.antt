-- Letters without places that they share, and words that are reduced, letter by letter (May, Simplicial Objects in Algebraic Topology, chapters I
-- and VI, 26).
--
--   of [2-1:x, 1:y] the letters share place 1, and without it are [1:x, y]
use Rattle.std.specs.Prelude.{◌≡◌, ℕ, false, List, [], ◌∷◌}
use Rattle.simp_ops.specs.Words.{compose_words}
use Rattle.simp_ops.specs.Bits.{mask_word}
use Rattle.cells.specs.declared.cells.Letter.{Letter}
use Rattle.term_lang.specs.Belongs.{are_inverse}
use Rattle.loop_words.specs.LetterWords.{is_unit}

-- the mask before m is l
pub record IsStripped (mask : ℕ) (l m : Letter) : Type 0 where
  pub sign : m.inverse ≡ l.inverse
  pub cell : m.simplex.cell ≡ l.simplex.cell
  pub word : compose_words (mask_word mask) (mask_word m.simplex.degens.mask) ≡ mask_word l.simplex.degens.mask

abbrev pub AreStripped : ℕ → List Letter → List Letter → Type 0
AreStripped mask [] [] = Unit {0}
AreStripped mask [] (m ∷ w) = ⊥
AreStripped mask (l ∷ v) [] = ⊥
AreStripped mask (l ∷ v) (m ∷ w) = IsStripped mask l m × AreStripped mask v w

-- the letter does not stand before its inverse
abbrev pub StandsApart : Letter → List Letter → Type 0
StandsApart l [] = Unit {0}
StandsApart l (m ∷ w) = are_inverse l m ≡ false

-- no letter is an s_0, and none stands before its inverse
abbrev pub AreApart : List Letter → Type 0
AreApart [] = Unit {0}
AreApart (l ∷ w) = (is_unit l ≡ false) × StandsApart l w × AreApart w
