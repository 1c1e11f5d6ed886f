-- The cells of a loop group are words, and where the base is.
use Rattle.std.proofs.Common.{◌≡◌, ℕ, suc, Bool, true, false, not, ◌&&◌, List, [], ◌∷◌, map, refl, sym, ◌∙◌, ap, subst, true≢false}
use Rattle.std.specs.Prelude.{◌↔◌}
use Rattle.simp_ops.specs.Bits.{bit, mask_word}
use Rattle.simp_ops.proofs.Squeezed.{and_left, and_right}
use Rattle.spaces.specs.Spaces.{Space, loops, set_of, is_base}
use Rattle.spaces.specs.Allowed.{IsAllowed}
use Rattle.spaces.proofs.LoopBase.{no_letter}
use Rattle.cells.specs.declared.cells.Cell.{Cell, roll-Cell, out-Cell, roll-out-Cell}
use Rattle.cells.specs.declared.cells.Cell.TheVariants.{Word, rolls-Word}
use Rattle.cells.specs.declared.cells.Cell.TheOpen.{Cell-F}
use Rattle.cells.specs.declared.cells.Letter.{Letter}
use Rattle.cells.specs.declared.cells.Simplex.{Simplex}
use Rattle.term_lang.specs.Degenerated.{degenerated}
use Rattle.term_lang.specs.Forms.{cell_form, form, letter_form}
use Rattle.term_lang.specs.Belongs.{is_cell, is_simplex, are_letters, is_reduced, shares_place, are_inverse, IsCell, IsSimplex}
use Rattle.term_lang.proofs.CellForms.{tested, is_cell-roll, with_test}
use Rattle.kz1_group.proofs.Faced.{worded}
use Rattle.loop_words.specs.LetterWords.{is_unit, IsReduced}
use Rattle.loop_words.specs.WordForms.{word_form, AreLetters, HasLetters}
use Rattle.loop_words.specs.WordNorms.{AreApart}
use Rattle.loop_words.specs.LoopCells.{IsWordCell}
use Rattle.loop_words.proofs.ApartLetters.{reduced_apart, apart_reduced, apart_tested}
use Rattle.loop_words.proofs.InSpaces.{reduced-form}
use Rattle.loop_words.proofs.WordCells.{lifted, loop-degenerated, form-word, tested_letters, word_is_cell}

not_true : (b : Bool) → not b ≡ true → b ≡ false
not_true true h = absurd (true≢false (sym h))
not_true false h = refl

module _ (a : Space) (n : ℕ) where
  -- the letters of a cell
  abbrev letter_is : Letter → Bool
  letter_is l = is_simplex l.simplex a (suc n) && not (bit l.simplex.degens.mask 0)

  letters_in : (w : List Letter) → are_letters a n (map with_test w) ≡ true → AreLetters a n w
  letters_in [] h = tt
  letters_in (l ∷ w) h = (
    and_left (is_simplex l.simplex a (suc n)) (not (bit l.simplex.degens.mask 0)) (and_left (letter_is l) (are_letters a n (map with_test w)) h),
    letters_in w (and_right (letter_is l) (are_letters a n (map with_test w)) h),
  )

  letters_apart : (w : List Letter) → are_letters a n (map with_test w) ≡ true → is_reduced w ≡ true → AreApart w
  letters_apart [] h r = tt
  letters_apart (l ∷ []) h r =
      (not_true (is_unit l) (and_right (is_simplex l.simplex a (suc n)) (not (is_unit l)) (and_left (letter_is l) true h)), tt, tt)
  letters_apart (l ∷ (m ∷ w)) h r = (
    not_true (is_unit l) (and_right (is_simplex l.simplex a (suc n)) (not (is_unit l)) (and_left (letter_is l) (are_letters a n (map with_test (m ∷ w))) h)),
    not_true (are_inverse l m) (and_left (not (are_inverse l m)) (is_reduced (m ∷ w)) r),
    letters_apart (m ∷ w) (and_right (letter_is l) (are_letters a n (map with_test (m ∷ w))) h) (and_right (not (are_inverse l m)) (is_reduced (m ∷ w)) r),
  )

  letters_out : (w : List Letter) → AreLetters a n w → AreApart w → are_letters a n (map with_test w) ≡ true
  letters_out [] h g = refl
  letters_out (l ∷ w) h g = λ i. h.0 i && not (g.0 i) && letters_out w h.1 g.2 i

  in_layer : (y : Cell-F Cell Letter Simplex) → tested y (loops a) n ≡ true → IsWordCell a n (roll-Cell y)
  unfolding tested
  in_layer (Cell-F.Word w) h =
      let t = are_letters a n (map with_test w) in
      let e : (t && is_reduced w && not (shares_place n w)) ≡ true = (λ i. t && is_reduced (sym (tested_letters w) i) && not (shares_place n (sym (tested_letters w) i))) ∙ h in
      let first : t && is_reduced w ≡ true = and_left (t && is_reduced w) (not (shares_place n w)) e in
      let in_space : t ≡ true = and_left t (is_reduced w) first in
      record {
        letters = w;
        is = rolls-Word w;
        are_letters = letters_in w in_space;
        reduced = apart_reduced w (letters_apart w in_space (and_right t (is_reduced w) first));
        shares_none = not_true (shares_place n w) (and_right (t && is_reduced w) (not (shares_place n w)) e);
      }
  in_layer y h = absurd (true≢false (sym h))

  pub cell_word : (c : Cell) → IsCell (loops a) n c → IsWordCell a n c
  cell_word c h =
      subst (IsWordCell a n) (roll-out-Cell c)
      (in_layer (out-Cell c) (ap (λ f. f (loops a) n) (sym (is_cell-roll (out-Cell c))) ∙ ap (λ d. is_cell d (loops a) n) (roll-out-Cell c) ∙ h))

  pub word_cell : (w : List Letter) → AreLetters a n w → IsReduced w → shares_place n w ≡ false → IsCell (loops a) n (Word w)
  word_cell w h r s = let g : AreApart w = reduced_apart w r in word_is_cell a n w (letters_out w h g) (apart_tested w g) s

-- in degree 0 a reduced word has no letter, where the space has no edge
pub vertex_is : (a : Space) → IsAllowed (loops a) → HasLetters a 0 → (c : Cell) → IsCell (loops a) 0 c → c ≡ Word []
vertex_is a is known c h = by (cell_word a 0 c h).letters (cell_word a 0 c h).is (cell_word a 0 c h).are_letters (cell_word a 0 c h).reduced
  where
    by : (w : List Letter) → c ≡ Word w → AreLetters a 0 w → IsReduced w → c ≡ Word []
    by [] e g r = e
    by (l ∷ w) e g r =
        absurd (no_letter (set_of a) is.0.2 (letter_form l a) (word_form a w) (known.forms.simplex l.simplex g.0) (sym (reduced-form a 0 known (l ∷ w) g) ∙ ap (word_form a) r))

-- the base is the empty word behind degeneracies
module _ (a : Space) (n : ℕ) (x : Simplex) (h : IsSimplex (loops a) n x) where
  base_word : (v : List ℕ) (u : List Letter) → is_base (loops a) (map (lifted (set_of a) v) (word_form a u)) ≡ true → u ≡ []
  base_word v [] e = refl
  base_word v (l ∷ u) e = absurd (true≢false (sym e))

  form_is : (u : List Letter) → x.cell ≡ Word u → form x (loops a) ≡ map (lifted (set_of a) (mask_word x.degens.mask)) (word_form a u)
  form_is u e =
      ap (λ c. degenerated (set_of (loops a)) (mask_word x.degens.mask) (cell_form c (loops a))) e
      ∙ ap (degenerated (set_of (loops a)) (mask_word x.degens.mask)) (form-word a u)
      ∙ loop-degenerated (set_of a) (mask_word x.degens.mask) (word_form a u)

  pub base_is : (is_base (loops a) (form x (loops a)) ≡ true) ↔ (x.cell ≡ Word [])
  base_is = (told, back)
    where
      k : IsWordCell a (worded (loops a) n x h).dim x.cell
      k = cell_word a (worded (loops a) n x h).dim x.cell (worded (loops a) n x h).cell

      told : is_base (loops a) (form x (loops a)) ≡ true → x.cell ≡ Word []
      told e = k.is ∙ ap Word (base_word (mask_word x.degens.mask) k.letters (ap (is_base (loops a)) (sym (form_is k.letters k.is)) ∙ e))

      back : x.cell ≡ Word [] → is_base (loops a) (form x (loops a)) ≡ true
      back e = ap (is_base (loops a)) (form_is [] e)
