-- The letter of a simplex is a twisting operator to the loop group, and the path space, the twisted product that it makes, is a
-- simplicial set.
use Rattle.std.proofs.Common.{◌≡◌, ℕ, suc, ◌≤◌, true, false, List, [], ◌∷◌, ◌++◌, sym, ◌∙◌, ap, arith}
use Rattle.spaces.specs.Simplicial.{Simplicial, IsSimplicial}
use Rattle.spaces.specs.Products.{IsTwisting, twisted_set}
use Rattle.spaces.specs.LoopGroups.{Letter, reduce, word_times, letter_word, loop_face, loop_degeneracy, IsReduced, InLoop, loop_set}
use Rattle.spaces.proofs.Reduced.{before-dropped, before-flip, irreducible-reduce, reduce-reduce, times-reduce}
use Rattle.spaces.proofs.Letters.{in-reduce, reduce-spread}
use Rattle.spaces.proofs.LoopLetters.{face_letters, loop-face, face_respects, has_first, degeneracy-reduce}
use Rattle.spaces.proofs.LoopLaws.{loop_set_laws}
use Rattle.spaces.proofs.LoopGroup.{loop_group}
use Rattle.spaces.specs.Groups.{IsSimplicialGroup}
use Rattle.spaces.specs.WordGroups.{inverse_word}
use Rattle.spaces.proofs.Twisted.{twisted_laws}

module _ {K : Type 0} (A : Simplicial K) (laws : IsSimplicial A) where
  group : IsSimplicialGroup (loop_set A) (word_times A) (λ n. []) (inverse_word A)
  group = loop_group A laws

  letter_in : (n : ℕ) (x : K) → A.In (suc n) x → InLoop A n (letter_word A x) × IsReduced A (letter_word A x)
  letter_in n x is = (in-reduce A n ((false, x) ∷ []) (is, tt), reduce-reduce A ((false, x) ∷ []))

  -- the face of the word of a simplex
  face-letter : (n i : ℕ) (x : K) → A.In (suc (suc n)) x → i ≤ suc n → loop_face A i (letter_word A x) ≡ reduce A (face_letters A i (false, x) ++ [])
  face-letter n i x is h =
      loop-face A i (letter_word A x) ∙ reduce-spread A laws (suc n) (face_letters A i) (face_respects A laws n i h) ((false, x) ∷ []) (is, tt)

  first : (n : ℕ) (x : K) → A.In (suc (suc n)) x → word_times A (letter_word A (A.face 0 x)) (loop_face A 0 (letter_word A x)) ≡ letter_word A (A.face 1 x)
  first n x is =
      let w : List (Letter A) = (true, A.face 0 x) ∷ ((false, A.face 1 x) ∷ []) in
      ap (word_times A (letter_word A (A.face 0 x))) (face-letter n 0 x is (omega arith))
      ∙ times-reduce A laws ((false, A.face 0 x) ∷ []) w
      ∙ before-flip A laws (false, A.face 0 x) (letter_word A (A.face 1 x)) (irreducible-reduce A ((false, A.face 1 x) ∷ []))

  later : (n i : ℕ) (x : K) → A.In (suc (suc n)) x → i ≤ n → loop_face A (suc i) (letter_word A x) ≡ letter_word A (A.face (suc (suc i)) x)
  later n i x is h = face-letter n (suc i) x is (omega arith)

  unit : (n : ℕ) (x : K) (w : List (Letter A)) → A.In n x → IsReduced A w → word_times A (letter_word A (A.degeneracy 0 x)) w ≡ w
  unit n x w is r = ap (λ u. word_times A u w) (before-dropped A (false, A.degeneracy 0 x) [] (has_first A laws n x is)) ∙ r

  raised : (n i : ℕ) (x : K) → A.In (suc n) x → i ≤ n → letter_word A (A.degeneracy (suc i) x) ≡ loop_degeneracy A i (letter_word A x)
  raised n i x is h = sym (degeneracy-reduce A laws n i ((false, x) ∷ []) (is, tt) h)

  pub letter_twisting : IsTwisting A (loop_set A) (letter_word A) (word_times A)
  letter_twisting = record {
    t_in = letter_in;
    times_in = λ n u v h g. group.times_in n u v h g;
    associates = λ n u v w f g h. group.associates n u v w f g h;
    face_times = group.face_times;
    degeneracy_times = group.degeneracy_times;
    first = first;
    later = later;
    unit = λ n x w is h. unit n x w is h.1;
    raised = raised;
  }

  pub path_set_laws : IsSimplicial (twisted_set A (loop_set A) (letter_word A) (word_times A))
  path_set_laws = twisted_laws A (loop_set A) laws (loop_set_laws A laws) (letter_word A) (word_times A) letter_twisting
