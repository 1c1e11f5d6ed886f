-- A word is reduced exactly where no letter is an s_0 and none stands beside its inverse.
use Rattle.std.proofs.Common.{◌≡◌, true, false, not, cond, ◌&&◌, List, [], ◌∷◌, refl, sym, ◌∙◌, ap}
use Rattle.spaces.proofs.Reduced.{Irreducible, irreducible_is}
use Rattle.cells.specs.declared.cells.Letter.{Letter}
use Rattle.term_lang.specs.Belongs.{is_reduced}
use Rattle.loop_words.specs.LetterWords.{is_unit, before, IsReduced}
use Rattle.loop_words.specs.WordNorms.{StandsApart, AreApart}
use Rattle.loop_words.proofs.CodeGroup.{as_set, plain, plain_is, units, meets}

apart_of : (w : List Letter) → Irreducible as_set (plain w) → AreApart w
apart_of [] h = tt
apart_of (l ∷ []) h = (sym (units l.simplex tt) ∙ h.0, tt, tt)
apart_of (l ∷ (m ∷ w)) h = (sym (units l.simplex tt) ∙ h.0, sym (meets l m tt tt) ∙ h.1, apart_of (m ∷ w) h.2)

pub reduced_apart : (w : List Letter) → IsReduced w → AreApart w
reduced_apart w h = apart_of w (irreducible_is as_set (plain w) (plain_is w h))

pub before-apart : (l : Letter) (w : List Letter) → is_unit l ≡ false → StandsApart l w → before l w ≡ l ∷ w
before-apart l [] h g = ap (λ b. cond b [] (l ∷ [])) h
before-apart l (m ∷ w) h g = (λ i. cond (h i) (m ∷ w) (cond (g i) w (l ∷ (m ∷ w))))

pub apart_reduced : (w : List Letter) → AreApart w → IsReduced w
apart_reduced [] h = refl
apart_reduced (l ∷ w) h = ap (before l) (apart_reduced w h.2) ∙ before-apart l w h.0 h.1

-- the test of cells
pub apart_tested : (w : List Letter) → AreApart w → is_reduced w ≡ true
apart_tested [] h = refl
apart_tested (l ∷ []) h = refl
apart_tested (l ∷ (m ∷ w)) h = λ i. not (h.1 i) && apart_tested (m ∷ w) h.2 i
