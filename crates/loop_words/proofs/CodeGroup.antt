-- The reduced words of letters of the code are a group. They are the words over a simplicial set in which nothing is asked of degrees: a
-- simplex of the code is its own s_0 where its mask has place 0.
use Rattle.std.proofs.Common.{◌≡◌, Bool, true, false, not, cond, ◌&&◌, ◌⊎◌, inl, inr, List, [], ◌∷◌, map, refl, sym, ◌∙◌, ap, subst, true≢false, lit<}
use Rattle.std.specs.Ordering.{is_eq}
use Rattle.std.specs.declared.cmp.Ordering.{Ordering}
use Rattle.std.specs.declared.cmp.Ordering.TheVariants.{Less, Equal, Greater}
use Rattle.std.proofs.lemmas.Bool.{cases_Bool}
use Rattle.simp_ops.specs.Bits.{bit}
use Rattle.spaces.specs.Simplicial.{Simplicial, IsSimplicial, has_degeneracy}
use Rattle.spaces.specs.LoopGroups.{Letter as PlainLetter, cancels, reduce, word_times, IsReduced as IsPlainReduced}
use Rattle.spaces.specs.WordGroups.{IsGroup, inverse_word}
use Rattle.spaces.proofs.Reduced.{reduced_words, reduce-reduce}
use Rattle.cells.specs.declared.cells.Cell.TheVariants.{Base}
use Rattle.cells.specs.declared.cells.Letter.{Letter}
use Rattle.cells.specs.declared.cells.Simplex.{Simplex}
use Rattle.cells.specs.Order.{simplex_cmp}
use Rattle.cells.specs.Laws.{simplex_equiv}
use Rattle.cells.proofs.OneKey.{one_simplex}
use Rattle.term_lang.specs.Belongs.{are_inverse}
use Rattle.loop_words.specs.LetterWords.{reduced, IsReduced, times, inverse}
use Rattle.loop_words.specs.WordForms.{Every}
use Rattle.loop_words.proofs.Reductions.{read, word, word-inverse, word-reduced, word-times}

equal_is : (o : Ordering) → is_eq o ≡ true → o ≡ Equal
equal_is Less e = absurd (true≢false (sym e))
equal_is Equal e = refl
equal_is Greater e = absurd (true≢false (sym e))

abbrev pub same_simplex : Simplex → Simplex → Bool
same_simplex x y = is_eq (simplex_cmp x y)

pub same_simplex_is : (x y : Simplex) → same_simplex x y ≡ true → x ≡ y
same_simplex_is x y e = one_simplex x y (equal_is (simplex_cmp x y) e)

pub same_simplex_self : (x : Simplex) → same_simplex x x ≡ true
same_simplex_self x = simplex_equiv.refl x

-- a simplex whose mask has place 0
abbrev marked : Simplex
marked = record { degens = record { mask = 1; below_32 = lit< tt }; cell = Base }

abbrev pub as_set : Simplicial Simplex
as_set = record { In = λ n x. ⊥; face = λ i x. cond (bit x.degens.mask 0) x marked; degeneracy = λ i x. x; same = same_simplex }

as_set_laws : IsSimplicial as_set
as_set_laws = record {
  face_in = λ n i x h l. h;
  degeneracy_in = λ n i x h l. h;
  face_face = λ n i j x h l m. absurd h;
  face_here = λ n j x h l. absurd h;
  face_next = λ n j x h l. absurd h;
  face_below = λ n i j x h l m. absurd h;
  face_above = λ n i j x h l m. absurd h;
  degeneracy_degeneracy = λ n i j x h l m. absurd h;
  same_is = same_simplex_is;
  same_equivalence = simplex_equiv;
}

abbrev Any : Simplex → Type 0
Any x = Unit {0}

all : (w : List Letter) → Every Any w
all [] = tt
all (l ∷ w) = (tt, all w)

abbrev as_is : Simplex → Simplex
as_is x = x

pub units : (x : Simplex) → Any x → has_degeneracy as_set 0 x ≡ bit x.degens.mask 0
units x h = by (bit x.degens.mask 0) refl
  where
    by : (b : Bool) → bit x.degens.mask 0 ≡ b → same_simplex x (cond b x marked) ≡ b
    by true e = same_simplex_self x
    by false e = at (cases_Bool (same_simplex x marked))
      where
        at : (same_simplex x marked ≡ true) ⊎ (same_simplex x marked ≡ false) → same_simplex x marked ≡ false
        at (inr q) = q
        at (inl q) = absurd (true≢false (sym (ap (λ (y : Simplex). bit y.degens.mask 0) (same_simplex_is x marked q)) ∙ e))

pub and_turned : (a b : Bool) → (a && b) ≡ (b && a)
and_turned true true = refl
and_turned true false = refl
and_turned false true = refl
and_turned false false = refl

pub meets : (l m : Letter) → Any l.simplex → Any m.simplex → cancels as_set (read Any as_set as_is l) (read Any as_set as_is m) ≡ are_inverse l m
meets l m h g = and_turned (same_simplex l.simplex m.simplex) (cond l.inverse (not m.inverse) m.inverse)

abbrev pub plain : List Letter → List (PlainLetter as_set)
plain w = word Any as_set as_is w

-- words are told by their letters
abbrev code : PlainLetter as_set → Letter
code p = record { inverse = p.0; simplex = p.1 }

coded : (w : List Letter) → map code (plain w) ≡ w
coded [] = refl
coded (l ∷ w) = ap (λ u. l ∷ u) (coded w)

back : (u v : List Letter) → plain u ≡ plain v → u ≡ v
back u v e = sym (coded u) ∙ ap (map code) e ∙ coded v

plain-reduced : (w : List Letter) → plain (reduced w) ≡ reduce as_set (plain w)
plain-reduced w = word-reduced Any as_set as_is units meets w (all w)

plain-times : (u v : List Letter) → plain (times u v) ≡ word_times as_set (plain u) (plain v)
plain-times u v = word-times Any as_set as_is units meets u v (all u) (all v)

plain-inverse : (w : List Letter) → plain (inverse w) ≡ inverse_word as_set (plain w)
plain-inverse w = word-inverse Any as_set as_is w

pub plain_is : (w : List Letter) → IsReduced w → IsPlainReduced as_set (plain w)
plain_is w h = sym (plain-reduced w) ∙ ap plain h

code_is : (w : List Letter) → IsPlainReduced as_set (plain w) → IsReduced w
code_is w h = back (reduced w) w (plain-reduced w ∙ h)

laws : IsGroup (IsPlainReduced as_set) (word_times as_set) [] (inverse_word as_set)
laws = reduced_words as_set as_set_laws

pub words_group : IsGroup IsReduced times [] inverse
words_group = record {
  times_in = λ u v h g. code_is (times u v) (subst (IsPlainReduced as_set) (sym (plain-times u v)) (laws.times_in (plain u) (plain v) (plain_is u h) (plain_is v g)));
  unit_in = refl;
  inverse_in = λ w h. code_is (inverse w) (subst (IsPlainReduced as_set) (sym (plain-inverse w)) (laws.inverse_in (plain w) (plain_is w h)));
  associates = λ u v w f g h.
      back (times (times u v) w) (times u (times v w))
      (plain-times (times u v) w ∙ ap (λ k. word_times as_set k (plain w)) (plain-times u v)
      ∙ laws.associates (plain u) (plain v) (plain w) (plain_is u f) (plain_is v g) (plain_is w h)
      ∙ sym (plain-times u (times v w) ∙ ap (word_times as_set (plain u)) (plain-times v w)));
  unit_left = λ w h. h;
  unit_right = λ w h. back (times w []) w (plain-times w [] ∙ laws.unit_right (plain w) (plain_is w h));
  inverse_left = λ w h.
      back (times (inverse w) w) []
      (plain-times (inverse w) w ∙ ap (λ k. word_times as_set k (plain w)) (plain-inverse w) ∙ laws.inverse_left (plain w) (plain_is w h));
  inverse_right = λ w h.
      back (times w (inverse w)) []
      (plain-times w (inverse w) ∙ ap (word_times as_set (plain w)) (plain-inverse w) ∙ laws.inverse_right (plain w) (plain_is w h));
}

pub reduced_again : (w : List Letter) → IsReduced (reduced w)
reduced_again w = code_is (reduced w) (subst (IsPlainReduced as_set) (sym (plain-reduced w)) (reduce-reduce as_set (plain w)))
