-- The loop group is a simplicial group: each degree is a group, and faces and degeneracies carry products to products.
use Rattle.std.proofs.Common.{◌≡◌, ℕ, suc, ◌≤◌, List, [], ◌∷◌, ◌++◌, refl, sym, ◌∙◌, ap}
use Rattle.std.proofs.lemmas.List.{map-append}
use Rattle.spaces.specs.Simplicial.{Simplicial, IsSimplicial}
use Rattle.spaces.specs.LoopGroups.{Letter, reduce, word_times, loop_face, loop_degeneracy, IsReduced, InLoop, loop_set}
use Rattle.spaces.specs.Groups.{IsSimplicialGroup}
use Rattle.spaces.specs.WordGroups.{IsGroup, inverse_word}
use Rattle.spaces.proofs.Reduced.{flip, reduce-reduce, reduced_words}
use Rattle.spaces.proofs.Letters.{in-append, in-reduce, spread-times}
use Rattle.spaces.proofs.LoopLetters.{face_letters, degeneracy_letter, loop-face, face_respects, degeneracy-reduce}

module _ {K : Type 0} (A : Simplicial K) where
  in-inverse : (n : ℕ) (w : List (Letter A)) → InLoop A n w → InLoop A n (inverse_word A w)
  in-inverse n [] h = tt
  in-inverse n (l ∷ w) h = in-append A n (inverse_word A w) (flip A l ∷ []) (in-inverse n w h.1) (h.0, tt)

  module _ (laws : IsSimplicial A) where
    words : IsGroup (IsReduced A) (word_times A) [] (inverse_word A)
    words = reduced_words A laws

    pub times_in : (n : ℕ) (u v : List (Letter A)) → InLoop A n u → InLoop A n v → InLoop A n (word_times A u v)
    times_in n u v h g = in-reduce A n (u ++ v) (in-append A n u v h g)

    pub face-times : (n i : ℕ) (u v : List (Letter A)) → InLoop A (suc n) u → InLoop A (suc n) v → i ≤ suc n
        → loop_face A i (word_times A u v) ≡ word_times A (loop_face A i u) (loop_face A i v)
    face-times n i u v h g l =
        loop-face A i (word_times A u v)
        ∙ spread-times A laws (suc n) (face_letters A i) (face_respects A laws n i l) u v h g
        ∙ sym (λ k. word_times A (loop-face A i u k) (loop-face A i v k))

    pub degeneracy-times : (n i : ℕ) (u v : List (Letter A)) → InLoop A n u → InLoop A n v → i ≤ n
        → loop_degeneracy A i (word_times A u v) ≡ word_times A (loop_degeneracy A i u) (loop_degeneracy A i v)
    degeneracy-times n i u v h g l =
        degeneracy-reduce A laws n i (u ++ v) (in-append A n u v h g) l ∙ ap (reduce A) (map-append (degeneracy_letter A i) u v)

    pub loop_group : IsSimplicialGroup (loop_set A) (word_times A) (λ n. []) (inverse_word A)
    loop_group = record {
      times_in = λ n u v h g. (times_in n u v h.0 g.0, reduce-reduce A (u ++ v));
      unit_in = λ n. (tt, refl);
      inverse_in = λ n w h. (in-inverse n w h.0, words.inverse_in w h.1);
      associates = λ n u v w f g h. words.associates u v w f.1 g.1 h.1;
      unit_left = λ n w h. words.unit_left w h.1;
      unit_right = λ n w h. words.unit_right w h.1;
      inverse_left = λ n w h. words.inverse_left w h.1;
      inverse_right = λ n w h. words.inverse_right w h.1;
      face_times = λ n i u v h g l. face-times n i u v h.0 g.0 l;
      degeneracy_times = λ n i u v h g l. degeneracy-times n i u v h.0 g.0 l;
    }
