-- The words of a loop group in positive degrees, and the pairs of a letter and a word (Fox, Free differential calculus I, 1953; May,
-- Simplicial Objects, chapter VI, 26; Rubio and Sergeraert, Constructive Homological Algebra and Applications, chapter 3).
--
-- A letter of degree n is a simplex of degree n + 1 of the space that is no s_0, and its first face is d_1 - d_0 of the space. The
-- differential of the pairs is that of pairs of letters and words without any twist, plus the twist of the letters. Fox's expansion takes
-- a word to such pairs, and `unfox` takes the pair of y and g to the word y g minus the word g. Degenerate words and pairs count as 0.
--
--   where the row w of dimension 3 has the face t and then three degenerate ones, d(w, []) = -(t, [t^-1]) in degree 2: the first face of
--   the letter w gives -(t, []), and the twist (t, []) - (t, [t^-1]). In words d[w] = [t^-1], since d_0 of the word w is the inverse of t
use Rattle.std.specs.Prelude.{ℕ, zero, suc, ◌<◌, []}
use Rattle.fp_field.specs.Chains.{Terms}
use Rattle.fp_field.specs.Reduction.{Complex, Maps}
use Rattle.spaces.specs.Spaces.{Space, loops, Plain, set_of}
use Rattle.spaces.specs.Orders.{ordered}
use Rattle.spaces.specs.EilenbergZilber.{Linear, Pair}
use Rattle.values.specs.Asks.{Cell}
use Rattle.values.specs.Twists.{letters, letter_twist, fox, unfox}
use Rattle.values.specs.Laws.{cells, cell_d}
use Rattle.ez_laws.specs.LetterSides.{IsLetter}
use Rattle.twist_laws.specs.TwistedComplexes.{twisted_complex}

module _ (p : ℕ) (a : Space) where
  -- a letter and a word of one degree, after the degree
  abbrev pub LetterPair : Type 0
  LetterPair = Pair (Plain a) (Plain (loops a))

  -- the letters of the loop group of a, as a left part of pairs
  abbrev pub letters_of : Linear (Plain a)
  letters_of = letters p (ordered a)

  abbrev pub twist_of : LetterPair → Terms LetterPair
  twist_of s = letter_twist p (ordered a) (ordered (loops a)) s

  -- the pairs that are not degenerate, with the twist
  abbrev pub letter_pairs : Complex LetterPair
  letter_pairs = twisted_complex p letters_of (IsLetter (set_of a)) (ordered (loops a)) twist_of

  abbrev pub fox_of : Cell (loops a) → Terms LetterPair
  fox_of w = fox p (ordered a) (ordered (loops a)) w.0 w.1

  abbrev pub unfox_of : LetterPair → Terms (Cell (loops a))
  unfox_of s = unfox p (ordered a) (ordered (loops a)) s

  -- d of a word of degree at least 2; that of a word of degree 1 is 0, since the empty word is the only one of degree 0
  abbrev pub positive_d : Cell (loops a) → Terms (Cell (loops a))
  positive_d (zero, w) = []
  positive_d (suc zero, w) = []
  positive_d (suc (suc n), w) = cell_d p (loops a) (suc (suc n), w)

  -- the words of positive degree that are not degenerate
  abbrev pub positive_words : Complex (Cell (loops a))
  positive_words = record { generator = λ n w. (0 < n) × (cells p (loops a)).generator n w; same = (cells p (loops a)).same; d = positive_d }

  abbrev pub fox_maps : Maps (Cell (loops a)) LetterPair
  fox_maps = record { big = positive_words; small = letter_pairs; f = fox_of; g = unfox_of; h = λ w. [] }
