-- Words of letters as cells of a loop group: their plain forms, which of them are cells, and degeneracies, which act on each letter.
use Rattle.std.proofs.Common.{◌≡◌, ℕ, suc, true, false, not, ◌&&◌, List, [], ◌∷◌, map, refl, ◌∙◌, ap}
use Rattle.spaces.specs.Simplicial.{Simplicial}
use Rattle.spaces.specs.LoopGroups.{Letter as PlainLetter, loop_set}
use Rattle.spaces.specs.Spaces.{Space, loops}
use Rattle.cells.specs.declared.cells.Cell.TheVariants.{Word}
use Rattle.cells.specs.declared.cells.Letter.{Letter}
use Rattle.term_lang.specs.Degenerated.{degenerated}
use Rattle.term_lang.specs.Forms.{cell_form, letter_form, LetterForm}
use Rattle.term_lang.specs.Belongs.{is_cell, are_letters, letters_of, is_reduced, shares_place}
use Rattle.term_lang.proofs.CellForms.{form-Word, is_cell-Word, with_test}
use Rattle.loop_words.specs.WordForms.{word_form}

module _ {K : Type 0} (A : Simplicial K) where
  -- a word before a letter
  abbrev pub lifted : List ℕ → PlainLetter A → PlainLetter A
  lifted v l = (l.0, degenerated A (map suc v) l.1)

  none-lifted : (u : List (PlainLetter A)) → u ≡ map (lifted []) u
  none-lifted [] = refl
  none-lifted (l ∷ u) = ap (λ w. l ∷ w) (none-lifted u)

  more-lifted : (j : ℕ) (v : List ℕ) (u : List (PlainLetter A)) → map (λ l. (l.0, A.degeneracy (suc j) l.1)) (map (lifted v) u) ≡ map (lifted (j ∷ v)) u
  more-lifted j v [] = refl
  more-lifted j v (l ∷ u) = ap (λ w. lifted (j ∷ v) l ∷ w) (more-lifted j v u)

  pub loop-degenerated : (v : List ℕ) (u : List (PlainLetter A)) → degenerated (loop_set A) v u ≡ map (lifted v) u
  loop-degenerated [] u = none-lifted u
  loop-degenerated (j ∷ v) u = ap (map (λ l. (l.0, A.degeneracy (suc j) l.1))) (loop-degenerated v u) ∙ more-lifted j v u

word-map : (a : Space) (w : List Letter) → map (λ (f : LetterForm). f a) (map letter_form w) ≡ word_form a w
word-map a [] = refl
word-map a (l ∷ w) = ap (λ u. letter_form l a ∷ u) (word-map a w)

pub form-word : (a : Space) (w : List Letter) → cell_form (Word w) (loops a) ≡ word_form a w
form-word a w = ap (λ f. f (loops a)) (form-Word w) ∙ word-map a w

pub tested_letters : (w : List Letter) → letters_of (map with_test w) ≡ w
tested_letters [] = refl
tested_letters (l ∷ w) = ap (λ u. l ∷ u) (tested_letters w)

-- which words are cells
pub word_is_cell : (a : Space) (m : ℕ) (w : List Letter) → are_letters a m (map with_test w) ≡ true → is_reduced w ≡ true → shares_place m w ≡ false
    → is_cell (Word w) (loops a) m ≡ true
word_is_cell a m w h g s =
    ap (λ f. f (loops a) m) (is_cell-Word w)
    ∙ (λ i. are_letters a m (map with_test w) && is_reduced (tested_letters w i) && not (shares_place m (tested_letters w i)))
    ∙ (λ i. h i && g i && not (s i))
