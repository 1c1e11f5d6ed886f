-- The reduction of words of the code against that of words of a simplicial set: where the two tests of letters agree, the words do.
use Rattle.std.proofs.Common.{◌≡◌, ℕ, zero, suc, ◌<◌, Bool, true, false, cond, List, [], ◌∷◌, ◌++◌, map, length, get_or, refl, sym, ◌∙◌, ap, subst, arith}
use Rattle.std.proofs.lemmas.List.{map-append}
use Rattle.spaces.specs.Simplicial.{Simplicial, has_degeneracy}
use Rattle.spaces.specs.LoopGroups.{Letter as PlainLetter, cancels, before as plain_before, reduce, word_times}
use Rattle.spaces.specs.WordGroups.{inverse_word}
use Rattle.cells.specs.declared.cells.Letter.{Letter}
use Rattle.cells.specs.declared.cells.Simplex.{Simplex}
use Rattle.term_lang.specs.Belongs.{are_inverse}
use Rattle.loop_words.specs.WordForms.{Every}
use Rattle.loop_words.specs.LetterWords.{is_unit, before, word_before, reduced, times, inverse, turned}

cond_map : {X Y : Type 0} (f : X → Y) (b : Bool) (r s : List X) → map f (cond b r s) ≡ cond b (map f r) (map f s)
cond_map f true r s = refl
cond_map f false r s = refl

module _ (P : Simplex → Type 0) where
  every_cond : (b : Bool) (u v : List Letter) → Every P u → Every P v → Every P (cond b u v)
  every_cond true u v h g = h
  every_cond false u v h g = g

  pub every-before : (l : Letter) (w : List Letter) → P l.simplex → Every P w → Every P (before l w)
  every-before l [] p h = every_cond (is_unit l) [] (l ∷ []) tt (p, tt)
  every-before l (m ∷ w) p h =
      every_cond (is_unit l) (m ∷ w) (cond (are_inverse l m) w (l ∷ (m ∷ w))) h (every_cond (are_inverse l m) w (l ∷ (m ∷ w)) h.1 (p, h))

  pub every-word : (u w : List Letter) → Every P u → Every P w → Every P (word_before u w)
  every-word [] w h g = g
  every-word (l ∷ u) w h g = every-before l (word_before u w) h.0 (every-word u w h.1 g)

  pub every_at : (w : List Letter) (k : ℕ) (l : Letter) → k < length w → l ≡ get_or w k l → Every P w → P l.simplex
  every_at [] k l h e is = absurd (omega (arith, h))
  every_at (m ∷ w) zero l h e is = subst (λ (n : Letter). P n.simplex) (sym e) is.0
  every_at (m ∷ w) (suc k) l h e is = every_at w k l (omega (arith, h)) e is.1

  pub every-append : (u w : List Letter) → Every P u → Every P w → Every P (u ++ w)
  every-append [] w h g = g
  every-append (l ∷ u) w h g = (h.0, every-append u w h.1 g)

  pub every-inverse : (w : List Letter) → Every P w → Every P (inverse w)
  every-inverse [] h = tt
  every-inverse (l ∷ w) h = every-append (inverse w) (turned l ∷ []) (every-inverse w h.1) (h.0, tt)

  module _ {K : Type 0} (A : Simplicial K) (f : Simplex → K) where
    -- a letter and a word as they are read in the simplicial set
    abbrev pub read : Letter → PlainLetter A
    read l = (l.inverse, f l.simplex)

    abbrev pub word : List Letter → List (PlainLetter A)
    word w = map read w

    pub word-inverse : (w : List Letter) → word (inverse w) ≡ inverse_word A (word w)
    word-inverse [] = refl
    word-inverse (l ∷ w) = map-append read (inverse w) (turned l ∷ []) ∙ ap (λ u. u ++ read (turned l) ∷ []) (word-inverse w)

    module _ (units : (x : Simplex) → P x → has_degeneracy A 0 (f x) ≡ is_unit (record { inverse = false; simplex = x }))
        (meets : (l m : Letter) → P l.simplex → P m.simplex → cancels A (read l) (read m) ≡ are_inverse l m) where
      pub word-before : (l : Letter) (w : List Letter) → P l.simplex → Every P w → word (before l w) ≡ plain_before A (read l) (word w)
      word-before l [] p h = cond_map read (is_unit l) [] (l ∷ []) ∙ ap (λ b. cond b [] (read l ∷ [])) (sym (units l.simplex p))
      word-before l (m ∷ w) p h =
          cond_map read (is_unit l) (m ∷ w) (cond (are_inverse l m) w (l ∷ (m ∷ w)))
          ∙ ap (cond (is_unit l) (word (m ∷ w))) (cond_map read (are_inverse l m) w (l ∷ (m ∷ w)))
          ∙ (λ k. cond (sym (units l.simplex p) k) (word (m ∷ w)) (cond (sym (meets l m p h.0) k) (word w) (word (l ∷ (m ∷ w)))))

      pub word-reduced : (w : List Letter) → Every P w → word (reduced w) ≡ reduce A (word w)
      word-reduced [] h = refl
      word-reduced (l ∷ w) h =
          word-before l (reduced w) h.0 (every-word w [] h.1 tt) ∙ ap (plain_before A (read l)) (word-reduced w h.1)

      pub word-times : (u v : List Letter) → Every P u → Every P v → word (times u v) ≡ word_times A (word u) (word v)
      word-times u v h g = word-reduced (u ++ v) (every-append u v h g) ∙ ap (reduce A) (map-append read u v)
