-- The faces of a word, one letter after another.
use Rattle.std.proofs.Common.{◌≡◌, ℕ, zero, suc, ◌-◌, ◌≤◌, Bool, true, false, cond, List, [], ◌∷◌, ◌++◌, drop, refl, sym, ◌∙◌, ap, subst, arith}
use Rattle.std.proofs.lemmas.List.{map-append}
use Rattle.spaces.specs.Simplicial.{Simplicial}
use Rattle.spaces.specs.Spaces.{Space, set_of}
use Rattle.spaces.specs.LoopGroups.{Letter as PlainLetter, loop_face, reduce}
use Rattle.cells.specs.declared.cells.Letter.{Letter}
use Rattle.cells.specs.declared.cells.Simplex.{Simplex}
use Rattle.cells.specs.Dim.{degree_of}
use Rattle.term_lang.specs.Belongs.{IsSimplex}
use Rattle.term_lang.specs.Forms.{form, letter_form}
use Rattle.loop_words.specs.LetterWords.{word_before, IsReduced}
use Rattle.loop_words.specs.WordForms.{word_form, AreLetters, HasLetters}
use Rattle.loop_words.specs.WordFaces.{letter_faces, HaveDegree, IsWordFace, PutsFaces, pair_of}
use Rattle.loop_words.proofs.OnTop.{times-before}
use Rattle.loop_words.proofs.Reductions.{every-append}
use Rattle.loop_words.proofs.CodeGroup.{reduced_again}
use Rattle.loop_words.proofs.InSpaces.{reduced-form, reduced_in}

module _ {K : Type 0} (A : Simplicial K) where
  faces-none : (i : ℕ) → letter_faces A i [] ≡ []
  faces-none zero = refl
  faces-none (suc i) = refl

  faces-cons : (i : ℕ) (l : PlainLetter A) (w : List (PlainLetter A)) → letter_faces A i (l ∷ w) ≡ letter_faces A i (l ∷ []) ++ letter_faces A i w
  faces-cons zero (true, x) w = refl
  faces-cons zero (false, x) w = refl
  faces-cons (suc i) l w = refl

  loop-faces : (i : ℕ) (w : List (PlainLetter A)) → loop_face A i w ≡ reduce A (letter_faces A i w)
  loop-faces zero w = refl
  loop-faces (suc i) w = refl

module _ (a : Space) (i : ℕ) where
  pub no_letter : (y : List Letter) → y ≡ [] → IsWordFace a i [] y
  no_letter y e = record {
    faces = [];
    are_faces = record { plain_are = sym (faces-none (set_of a) i); letters = λ n l h. tt };
    reduces = e;
  }

  pub one_more : (l : Letter) (w y z : List Letter) → IsWordFace a i w y → PutsFaces a i l y z → IsWordFace a i (l ∷ w) z
  one_more l w y z f p = record {
    faces = p.faces ++ f.faces;
    are_faces = record {
      plain_are =
          map-append (λ m. letter_form m a) p.faces f.faces
          ∙ (λ k. p.are_faces.plain_are k ++ f.are_faces.plain_are k)
          ∙ sym (faces-cons (set_of a) i (letter_form l a) (word_form a w));
      letters = λ n h d. every-append (IsSimplex a (suc (n - 1))) p.faces f.faces (p.are_faces.letters n h (d.0, tt)) (f.are_faces.letters n h d.1);
    };
    reduces = p.put ∙ ap (word_before p.faces) f.reduces ∙ sym (times-before p.faces f.faces);
  }

  -- all letters of a word were put
  pub whole_face : (w letters y : List Letter) (left : ℕ) → left ≡ 0 → letters ≡ w → IsWordFace a i (drop left letters) y → IsWordFace a i w y
  whole_face w letters y left z e f = subst (λ u. IsWordFace a i u y) (λ t. drop (z t) (e t)) f

  pub face_letters : (w y : List Letter) (n : ℕ) → 1 ≤ n → HaveDegree n w → IsWordFace a i w y → AreLetters a (n - 1) y
  face_letters w y n l d f = subst (AreLetters a (n - 1)) (sym f.reduces) (reduced_in a (n - 1) f.faces (f.are_faces.letters n l d))

  pub face_reduced : (w y : List Letter) → IsWordFace a i w y → IsReduced y
  face_reduced w y f = subst IsReduced (sym f.reduces) (reduced_again f.faces)

  pub face-form : (w y : List Letter) (n : ℕ) → 1 ≤ n → HaveDegree n w → HasLetters a (n - 1) → IsWordFace a i w y
      → word_form a y ≡ loop_face (set_of a) i (word_form a w)
  face-form w y n l d has f =
      ap (word_form a) f.reduces
      ∙ reduced-form a (n - 1) has f.faces (f.are_faces.letters n l d)
      ∙ ap (reduce (set_of a)) f.are_faces.plain_are
      ∙ sym (loop-faces (set_of a) i (word_form a w))

-- ---- one letter

module _ (a : Space) (l : Letter) where
  abbrev x : Simplex
  x = l.simplex

  in_degree : (y : Simplex) (n : ℕ) → 1 ≤ n → degree_of x ≡ suc n → IsSimplex a (degree_of x - 1) y → IsSimplex a (suc (n - 1)) y
  in_degree y n h d is = let e : degree_of x - 1 ≡ suc (n - 1) = omega (arith, h, d) in subst (λ m. IsSimplex a m y) e is

  -- for i at least 1
  pub later_face : (i j k : ℕ) (f : Letter) (old new : List Letter) → i ≡ suc j → k ≡ suc (suc j) → f.inverse ≡ l.inverse
      → form f.simplex a ≡ (set_of a).face k (form x a) → IsSimplex a (degree_of x - 1) f.simplex → new ≡ word_before (f ∷ []) old
      → PutsFaces a i l old new
  later_face i j k f old new e q b p is g = record {
    faces = f ∷ [];
    are_faces = record {
      plain_are = (λ t. (b t, p t) ∷ []) ∙ (λ t. (l.inverse, (set_of a).face (q t) (form x a)) ∷ []) ∙ ap (λ m. letter_faces (set_of a) m (letter_form l a ∷ [])) (sym e);
      letters = λ n h d. (in_degree f.simplex n h d.0 is, tt);
    };
    put = g;
  }

  -- d_0
  pub first_face : (i : ℕ) (d0 d1 first next : Simplex) (old new : List Letter) (b : Bool) → i ≡ 0 → l.inverse ≡ b
      → form d0 a ≡ (set_of a).face 0 (form x a) → form d1 a ≡ (set_of a).face 1 (form x a)
      → IsSimplex a (degree_of x - 1) d0 → IsSimplex a (degree_of x - 1) d1
      → first ≡ cond b d1 d0 → next ≡ cond b d0 d1
      → new ≡ word_before (pair_of first next) old → PutsFaces a i l old new
  first_face i d0 d1 first next old new true z e p q is js f g h = record {
    faces = pair_of first next;
    are_faces = record {
      plain_are =
          (λ k. (true, form (f k) a) ∷ ((false, form (g k) a) ∷ []))
          ∙ (λ k. (true, q k) ∷ ((false, p k) ∷ []))
          ∙ (λ t. letter_faces (set_of a) (sym z t) ((sym e t, form x a) ∷ []));
      letters = λ n h d. (in_degree first n h d.0 (subst (IsSimplex a (degree_of x - 1)) (sym f) js), (in_degree next n h d.0 (subst (IsSimplex a (degree_of x - 1)) (sym g) is), tt));
    };
    put = h;
  }
  first_face i d0 d1 first next old new false z e p q is js f g h = record {
    faces = pair_of first next;
    are_faces = record {
      plain_are =
          (λ k. (true, form (f k) a) ∷ ((false, form (g k) a) ∷ []))
          ∙ (λ k. (true, p k) ∷ ((false, q k) ∷ []))
          ∙ (λ t. letter_faces (set_of a) (sym z t) ((sym e t, form x a) ∷ []));
      letters = λ n h d. (in_degree first n h d.0 (subst (IsSimplex a (degree_of x - 1)) (sym f) is), (in_degree next n h d.0 (subst (IsSimplex a (degree_of x - 1)) (sym g) js), tt));
    };
    put = h;
  }
