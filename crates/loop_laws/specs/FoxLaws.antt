-- What is said of Fox's expansion and of `unfox`. All of it is said over F_p: the chains have the same number at each generator.
use Rattle.std.specs.Prelude.{◌≡◌, ℕ, suc, true, false, []}
use Rattle.fp_field.specs.Reduction.{SameTerms, one, after}
use Rattle.spaces.specs.Simplicial.{has_degeneracy, is_degenerate}
use Rattle.spaces.specs.Spaces.{Space, loops, Plain, set_of}
use Rattle.spaces.specs.Orders.{ordered}
use Rattle.values.specs.Asks.{Cell}
use Rattle.values.specs.Twists.{is_letter_pair}
use Rattle.values.specs.Laws.{cells, cell_d}
use Rattle.loop_laws.specs.FoxComplexes.{LetterPair, letter_pairs, fox_of, unfox_of, positive_words}

module _ (p : ℕ) (a : Space) where
  -- the two maps are inverse to each other between the words of positive degree and the pairs
  pub record FoxIsInverse : Type 0 where
    pub unfox_fox : (n : ℕ) (w : Cell (loops a)) → (positive_words p a).generator n w
        → SameTerms p (positive_words p a).same (after (unfox_of p a) (fox_of p a) w) (one w)
    pub fox_unfox : (n : ℕ) (s : LetterPair p a) → (letter_pairs p a).generator n s
        → SameTerms p (letter_pairs p a).same (after (fox_of p a) (unfox_of p a) s) (one s)

  -- They carry the differential of words to that of pairs with the twist, and back, in degrees of at least 1. In degree 1 both are 0.
  pub record FoxCarriesDifferentials : Type 0 where
    pub fox_d : (n : ℕ) (w : Cell (loops a)) → (cells p (loops a)).generator (suc n) w
        → SameTerms p (letter_pairs p a).same (after (fox_of p a) (cell_d p (loops a)) w) (after (letter_pairs p a).d (fox_of p a) w)
    pub unfox_d : (n : ℕ) (s : LetterPair p a) → (letter_pairs p a).generator (suc n) s
        → SameTerms p (cells p (loops a)).same (after (unfox_of p a) (letter_pairs p a).d s) (after (cell_d p (loops a)) (unfox_of p a) s)
    pub lowest_words : (w : Cell (loops a)) → (cells p (loops a)).generator 1 w → SameTerms p (cells p (loops a)).same (cell_d p (loops a) w) []
    pub lowest_pairs : (s : LetterPair p a) → (letter_pairs p a).generator 1 s → (letter_pairs p a).d s ≡ []

  -- What is degenerate goes to 0: a word that is some s_j, a pair of which both parts are the same s_j, a pair whose letter is an s_0.
  pub record FoxRespectsDegeneracies : Type 0 where
    pub words : (n : ℕ) (w : Plain (loops a)) → (set_of (loops a)).In (suc n) w → is_degenerate (set_of (loops a)) (suc n) w ≡ true
        → SameTerms p (letter_pairs p a).same (fox_of p a (suc n, w)) []
    pub pairs : (n : ℕ) (y : Plain a) (g : Plain (loops a)) → (set_of a).In (suc n) y → (set_of (loops a)).In n g
        → is_letter_pair p (ordered a) (ordered (loops a)) (n, y, g) ≡ false
        → SameTerms p (cells p (loops a)).same (unfox_of p a (n, y, g)) []
    pub units : (n : ℕ) (y : Plain a) (g : Plain (loops a)) → (set_of a).In (suc n) y → (set_of (loops a)).In n g
        → has_degeneracy (set_of a) 0 y ≡ true → SameTerms p (cells p (loops a)).same (unfox_of p a (n, y, g)) []
