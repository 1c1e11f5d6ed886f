-- Words of letters of the code, their reduction, products and inverses (Kan; May, Simplicial Objects in Algebraic Topology, chapter VI, 26).
--
-- A letter is a simplex, or the inverse of one. A letter whose mask has place 0 is an s_0, and stands for the unit. A word is reduced where it
-- has no such letter, and no letter beside its inverse. The product of two words is what one before the other is reduced to.
--
--   [x, y, y^-1, x^-1, z] is reduced to [z], and the inverse of [x, y^-1] is [y, x^-1]
use Rattle.std.specs.Prelude.{◌≡◌, Bool, false, not, cond, List, [], ◌∷◌, ◌++◌, drop}
use Rattle.simp_ops.specs.Bits.{bit}
use Rattle.cells.specs.declared.cells.Letter.{Letter}
use Rattle.term_lang.specs.Belongs.{are_inverse}

abbrev pub is_unit : Letter → Bool
is_unit l = bit l.simplex.degens.mask 0

-- the word begins with the inverse of the letter
abbrev pub meets_inverse : Letter → List Letter → Bool
meets_inverse l [] = false
meets_inverse l (m ∷ w) = are_inverse l m

-- a letter before a reduced word: it is dropped where it is an s_0, and cancels with its inverse
abbrev pub before : Letter → List Letter → List Letter
before l w = cond (is_unit l) w (cond (meets_inverse l w) (drop 1 w) (l ∷ w))

-- the letters of a word before a reduced word, the last one first
abbrev pub word_before : List Letter → List Letter → List Letter
word_before [] w = w
word_before (l ∷ v) w = before l (word_before v w)

abbrev pub reduced : List Letter → List Letter
reduced w = word_before w []

abbrev pub IsReduced : List Letter → Type 0
IsReduced w = reduced w ≡ w

abbrev pub times : List Letter → List Letter → List Letter
times v w = reduced (v ++ w)

abbrev pub turned : Letter → Letter
turned l = record { inverse = not l.inverse; simplex = l.simplex }

-- a word turned around, with the inverse of each letter in its place
abbrev pub inverse : List Letter → List Letter
inverse [] = []
inverse (l ∷ w) = inverse w ++ (turned l ∷ [])
