-- Words of letters of the code in a space: their reduction is that of the loop group of the space.
use Rattle.std.proofs.Common.{◌≡◌, ℕ, suc, ◌<◌, Bool, true, false, not, cond, ◌&&◌, List, [], ◌++◌, refl, sym, ◌∙◌, ap, subst, arith}
use Rattle.simp_ops.specs.Bits.{bit, mask_word}
use Rattle.simp_ops.proofs.MaskWords.{has-places}
use Rattle.spaces.specs.Simplicial.{has_degeneracy}
use Rattle.spaces.specs.LoopGroups.{reduce, word_times, cancels}
use Rattle.spaces.specs.WordGroups.{inverse_word}
use Rattle.spaces.specs.Spaces.{Space, Plain, set_of}
use Rattle.spaces.specs.Allowed.{IsAllowed}
use Rattle.spaces.proofs.SpaceLaws.{space_set_laws}
use Rattle.cells.specs.declared.cells.Letter.{Letter}
use Rattle.cells.specs.declared.cells.Simplex.{Simplex}
use Rattle.term_lang.specs.Forms.{cell_form, form, letter_form}
use Rattle.term_lang.specs.Belongs.{IsSimplex, are_inverse}
use Rattle.normal_forms.specs.Built.{IsBuilt}
use Rattle.normal_forms.proofs.BuiltForms.{built_cells, built_forms}
use Rattle.normal_forms.proofs.FormsOfCells.{known}
use Rattle.normal_forms.proofs.WordsBefore.{has_word}
use Rattle.loop_words.specs.LetterWords.{reduced, times, inverse}
use Rattle.loop_words.specs.WordForms.{word_form, AreLetters, HasLetters}
use Rattle.loop_words.proofs.Reductions.{every-word, every-append, every-inverse, word-inverse, word-reduced, word-times}
use Rattle.loop_words.proofs.CodeGroup.{same_simplex, same_simplex_is, same_simplex_self, and_turned}

pub built_letters : (a : Space) (n : ℕ) → IsAllowed a → IsBuilt a → n < 32 → HasLetters a n
built_letters a n is built low = record {
  low = omega (arith, low);
  laws = space_set_laws a is.0;
  cells = built_cells a is built;
  forms = built_forms a is built (suc n) (omega (arith, low));
}

alike_by : (a b : Bool) → (a ≡ true → b ≡ true) → (b ≡ true → a ≡ true) → a ≡ b
alike_by true b f g = sym (f refl)
alike_by false true f g = g refl
alike_by false false f g = refl

module _ (a : Space) (n : ℕ) (has : HasLetters a n) where
  abbrev Is : Simplex → Type 0
  Is x = IsSimplex a (suc n) x

  abbrev plain : Simplex → Plain a
  plain x = form x a

  -- a letter is an s_0 where its mask has place 0
  units : (x : Simplex) → Is x → has_degeneracy (set_of a) 0 (plain x) ≡ bit x.degens.mask 0
  units x h =
      let k = known a has.laws (suc n) has.low (λ m l. has.cells m (omega (arith, l, has.low))) x h in
      let some : 0 < suc n = omega arith in
      has_word (set_of a) has.laws k.dim 0 (mask_word x.degens.mask) (cell_form x.cell a) k.before (subst (λ m. 0 < m) k.degree some)
      ∙ has-places 32 0 (bit x.degens.mask) (omega arith)

  same_agrees : (x y : Simplex) → Is x → Is y → (set_of a).same (plain x) (plain y) ≡ same_simplex x y
  same_agrees x y h g =
      alike_by ((set_of a).same (plain x) (plain y)) (same_simplex x y)
      (λ e. ap (same_simplex x) (sym (has.forms.once x y h g (has.laws.same_is (plain x) (plain y) e))) ∙ same_simplex_self x)
      (λ e. ap (λ z. (set_of a).same (plain x) (plain z)) (sym (same_simplex_is x y e)) ∙ has.laws.same_equivalence.refl (plain x))

  meets : (l m : Letter) → Is l.simplex → Is m.simplex → cancels (set_of a) (letter_form l a) (letter_form m a) ≡ are_inverse l m
  meets l m h g =
      ap (λ b. b && cond l.inverse (not m.inverse) m.inverse) (same_agrees l.simplex m.simplex h g)
      ∙ and_turned (same_simplex l.simplex m.simplex) (cond l.inverse (not m.inverse) m.inverse)

  pub reduced-form : (w : List Letter) → AreLetters a n w → word_form a (reduced w) ≡ reduce (set_of a) (word_form a w)
  reduced-form w h = word-reduced Is (set_of a) plain units meets w h

  pub times-form : (u v : List Letter) → AreLetters a n u → AreLetters a n v → word_form a (times u v) ≡ word_times (set_of a) (word_form a u) (word_form a v)
  times-form u v h g = word-times Is (set_of a) plain units meets u v h g

pub inverse-form : (a : Space) (w : List Letter) → word_form a (inverse w) ≡ inverse_word (set_of a) (word_form a w)
inverse-form a w = word-inverse (λ x. Unit {0}) (set_of a) (λ x. form x a) w

pub reduced_in : (a : Space) (n : ℕ) (w : List Letter) → AreLetters a n w → AreLetters a n (reduced w)
reduced_in a n w h = every-word (IsSimplex a (suc n)) w [] h tt

pub times_in : (a : Space) (n : ℕ) (u v : List Letter) → AreLetters a n u → AreLetters a n v → AreLetters a n (times u v)
times_in a n u v h g = reduced_in a n (u ++ v) (every-append (IsSimplex a (suc n)) u v h g)

pub inverse_in : (a : Space) (n : ℕ) (w : List Letter) → AreLetters a n w → AreLetters a n (inverse w)
inverse_in a n w h = every-inverse (IsSimplex a (suc n)) w h
