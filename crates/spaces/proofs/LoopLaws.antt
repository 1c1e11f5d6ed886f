-- The loop group of a simplicial set is a simplicial set. Its faces and degeneracies carry products to products, so that its laws are
-- those of letters.
use Rattle.std.proofs.Common.{◌≡◌, ℕ, zero, suc, ◌<◌, ◌≤◌, Bool, true, false, not, cond, List, [], ◌∷◌, ◌++◌, map, refl, sym, ◌∙◌, ap, arith, flat_map, true≢false}
use Rattle.std.specs.Cmp.{IsEquivalence, first_so, second_so, on_equiv, and_equiv}
use Rattle.std.specs.Cmp.Lexicographic.{pointwise}
use Rattle.std.proofs.lemmas.Cmp.{lists_equiv}
use Rattle.std.proofs.lemmas.List.{map-append}
use Rattle.std.proofs.lemmas.List.Folds.{flat_map-map}
use Rattle.spaces.specs.Simplicial.{Simplicial, IsSimplicial, has_degeneracy}
use Rattle.spaces.specs.LoopGroups.{Letter, before, reduce, loop_face, loop_degeneracy, IsReduced, InLoop, same_letter, loop_set}
use Rattle.spaces.proofs.Reduced.{before-dropped, Irreducible, irreducible-before, acting, reduce-reduce, before-flip}
use Rattle.spaces.proofs.Letters.{in-reduce, spread-spread, reduce-alike, reduce-spread}
use Rattle.spaces.proofs.LoopLetters.{face_letters, degeneracy_letter, loop-face, has_first, face_respects, faces_in, degeneracy-reduce, degeneracies_in}

-- equality of signs, as it is tested
abbrev same_sign : Bool → Bool → Bool
same_sign a b = cond a b (not b)

sign_is : (a b : Bool) → same_sign a b ≡ true → a ≡ b
sign_is true b h = sym h
sign_is false true h = absurd (true≢false (sym h))
sign_is false false h = refl

sign_equivalence : IsEquivalence same_sign
sign_equivalence = record { refl = same; symm = symm; congr = λ a b c h. ap (λ d. same_sign d c) (sign_is a b h) }
  where
    same : (a : Bool) → same_sign a a ≡ true
    same true = refl
    same false = refl

    symm : (a b : Bool) → same_sign a b ≡ same_sign b a
    symm true true = refl
    symm true false = refl
    symm false true = refl
    symm false false = refl

spread_single : {X : Type 0} (w : List X) → flat_map (λ l. l ∷ []) w ≡ w
spread_single [] = refl
spread_single (l ∷ w) = ap (λ u. l ∷ u) (spread_single w)

map-spread : {X Y Z : Type 0} (h : Y → Z) (f : X → List Y) (w : List X) → map h (flat_map f w) ≡ flat_map (λ l. map h (f l)) w
map-spread h f [] = refl
map-spread h f (l ∷ w) = map-append h (f l) (flat_map f w) ∙ ap (λ u. map h (f l) ++ u) (map-spread h f w)

module _ {K : Type 0} (A : Simplicial K) (laws : IsSimplicial A) where
  -- the law between two faces
  two_faces : (n i j : ℕ) (w : List (Letter A)) → InLoop A (suc (suc n)) w → i ≤ suc (suc n) → j ≤ suc n
      → loop_face A j (loop_face A i w) ≡ reduce A (flat_map (λ l. flat_map (face_letters A j) (face_letters A i l)) w)
  two_faces n i j w is h g =
      loop-face A j (loop_face A i w)
      ∙ ap (λ u. reduce A (flat_map (face_letters A j) u)) (loop-face A i w)
      ∙ reduce-spread A laws (suc n) (face_letters A j) (face_respects A laws n j g) (flat_map (face_letters A i) w) (faces_in A laws (suc n) i w is h)
      ∙ ap (reduce A) (spread-spread A (face_letters A j) (face_letters A i) w)

  face_face_letter : (n i j : ℕ) → j ≤ i → i ≤ suc n → (l : Letter A) → A.In (suc (suc (suc n))) l.1 → (v : List (Letter A)) → Irreducible A v
      → acting A (flat_map (face_letters A j) (face_letters A (suc i) l)) v ≡ acting A (flat_map (face_letters A i) (face_letters A j l)) v
  face_face_letter n zero zero h g (true, x) is v r =
      let d0 = A.face 0 in
      let d1 = A.face 1 in
      let w : List (Letter A) = before A (false, d1 (d0 x)) v in
      let a = laws.face_face (suc n) 1 1 x is (omega arith) (omega arith) in
      let b = laws.face_face (suc n) 1 0 x is (omega arith) (omega arith) in
      let c = laws.face_face (suc n) 0 0 x is (omega arith) (omega arith) in
      (λ k. before A (true, a k) (before A (false, b k) v))
      ∙ sym (ap (λ y. before A (true, d1 (d1 x)) (before A (false, y) (before A (true, d0 (d0 x)) w))) c
      ∙ ap (before A (true, d1 (d1 x))) (before-flip A laws (false, d0 (d0 x)) w (irreducible-before A (false, d1 (d0 x)) v r)))
  face_face_letter n zero zero h g (false, x) is v r =
      let d0 = A.face 0 in
      let d1 = A.face 1 in
      let w : List (Letter A) = before A (false, d1 (d1 x)) v in
      let a = laws.face_face (suc n) 1 1 x is (omega arith) (omega arith) in
      let b = laws.face_face (suc n) 1 0 x is (omega arith) (omega arith) in
      let c = laws.face_face (suc n) 0 0 x is (omega arith) (omega arith) in
      (λ k. before A (true, b k) (before A (false, a k) v))
      ∙ sym (ap (λ y. before A (true, d1 (d0 x)) (before A (false, d0 (d0 x)) (before A (true, y) w))) c
      ∙ ap (before A (true, d1 (d0 x))) (before-flip A laws (false, d0 (d0 x)) w (irreducible-before A (false, d1 (d1 x)) v r)))
  face_face_letter n zero (suc j) h g l is v r = absurd (omega arith)
  face_face_letter n (suc i) zero h g (true, x) is v r =
      let a = laws.face_face (suc n) (suc (suc i)) 1 x is (omega arith) (omega arith) in
      let b = laws.face_face (suc n) (suc (suc i)) 0 x is (omega arith) (omega arith) in
      λ k. before A (true, a k) (before A (false, b k) v)
  face_face_letter n (suc i) zero h g (false, x) is v r =
      let a = laws.face_face (suc n) (suc (suc i)) 1 x is (omega arith) (omega arith) in
      let b = laws.face_face (suc n) (suc (suc i)) 0 x is (omega arith) (omega arith) in
      λ k. before A (true, b k) (before A (false, a k) v)
  face_face_letter n (suc i) (suc j) h g l is v r =
      ap (λ y. before A (l.0, y) v) (laws.face_face (suc n) (suc (suc i)) (suc (suc j)) l.1 is (omega arith) (omega arith))

  face_face : (n i j : ℕ) (w : List (Letter A)) → InLoop A (suc (suc n)) w → j ≤ i → i ≤ suc n
      → loop_face A j (loop_face A (suc i) w) ≡ loop_face A i (loop_face A j w)
  face_face n i j w is h g =
      two_faces n (suc i) j w is (omega arith) (omega arith)
      ∙ reduce-alike A (suc (suc n)) (λ l. flat_map (face_letters A j) (face_letters A (suc i) l)) (λ l. flat_map (face_letters A i) (face_letters A j l))
      (face_face_letter n i j h g) w is
      ∙ sym (two_faces n j i w is (omega arith) g)

  -- the laws between a face and a degeneracy
  face_after : (i j : ℕ) (w : List (Letter A)) → loop_face A i (loop_degeneracy A j w) ≡ reduce A (flat_map (λ l. face_letters A i (degeneracy_letter A j l)) w)
  face_after i j w = loop-face A i (loop_degeneracy A j w) ∙ ap (reduce A) (flat_map-map (face_letters A i) (degeneracy_letter A j) w)

  degeneracy_after : (n i j : ℕ) (w : List (Letter A)) → InLoop A (suc n) w → i ≤ suc n → j ≤ n
      → loop_degeneracy A j (loop_face A i w) ≡ reduce A (flat_map (λ l. map (degeneracy_letter A j) (face_letters A i l)) w)
  degeneracy_after n i j w is h g =
      ap (loop_degeneracy A j) (loop-face A i w)
      ∙ degeneracy-reduce A laws n j (flat_map (face_letters A i) w) (faces_in A laws n i w is h) g
      ∙ ap (reduce A) (map-spread (degeneracy_letter A j) (face_letters A i) w)

  face_here_letter : (n j : ℕ) → j ≤ n → (l : Letter A) → A.In (suc n) l.1 → (v : List (Letter A)) → Irreducible A v
      → acting A (face_letters A j (degeneracy_letter A j l)) v ≡ before A l v
  face_here_letter n zero h (b, x) is v r =
      let z : A.In n (A.face 0 x) = laws.face_in n 0 x is (omega arith) in
      let d : has_degeneracy A 0 (A.face 0 (A.degeneracy 1 x)) ≡ true =
      ap (has_degeneracy A 0) (laws.face_below (suc n) 0 0 x is (omega arith) (omega arith)) ∙ has_first A laws n (A.face 0 x) z in
      let e : A.face 1 (A.degeneracy 1 x) ≡ x = laws.face_here (suc n) 1 x is (omega arith) in
      by b d e
    where
      by : (b : Bool) → has_degeneracy A 0 (A.face 0 (A.degeneracy 1 x)) ≡ true → A.face 1 (A.degeneracy 1 x) ≡ x
          → acting A (face_letters A 0 (degeneracy_letter A 0 (b, x))) v ≡ before A (b, x) v
      by true d e = (λ k. before A (true, e k) (before-dropped A (false, A.face 0 (A.degeneracy 1 x)) v d k))
      by false d e =
          before-dropped A (true, A.face 0 (A.degeneracy 1 x)) (before A (false, A.face 1 (A.degeneracy 1 x)) v) d
          ∙ ap (λ y. before A (false, y) v) e
  face_here_letter n (suc j) h l is v r = ap (λ y. before A (l.0, y) v) (laws.face_here (suc n) (suc (suc j)) l.1 is (omega arith))

  face_next_letter : (n j : ℕ) → j ≤ n → (l : Letter A) → A.In (suc n) l.1 → (v : List (Letter A)) → Irreducible A v
      → acting A (face_letters A (suc j) (degeneracy_letter A j l)) v ≡ before A l v
  face_next_letter n j h l is v r = ap (λ y. before A (l.0, y) v) (laws.face_next (suc n) (suc j) l.1 is (omega arith))

  face_here : (n j : ℕ) (w : List (Letter A)) → InLoop A n w → IsReduced A w → j ≤ n → loop_face A j (loop_degeneracy A j w) ≡ w
  face_here n j w is r h =
      face_after j j w
      ∙ reduce-alike A n (λ l. face_letters A j (degeneracy_letter A j l)) (λ l. l ∷ []) (face_here_letter n j h) w is
      ∙ ap (reduce A) (spread_single w)
      ∙ r

  face_next : (n j : ℕ) (w : List (Letter A)) → InLoop A n w → IsReduced A w → j ≤ n → loop_face A (suc j) (loop_degeneracy A j w) ≡ w
  face_next n j w is r h =
      face_after (suc j) j w
      ∙ reduce-alike A n (λ l. face_letters A (suc j) (degeneracy_letter A j l)) (λ l. l ∷ []) (face_next_letter n j h) w is
      ∙ ap (reduce A) (spread_single w)
      ∙ r

  face_below_letter : (n i j : ℕ) → i ≤ j → j ≤ n → (l : Letter A) → A.In (suc (suc n)) l.1
      → face_letters A i (degeneracy_letter A (suc j) l) ≡ map (degeneracy_letter A j) (face_letters A i l)
  face_below_letter n zero j h g (true, x) is =
      let a = laws.face_below (suc (suc n)) 1 (suc j) x is (omega arith) (omega arith) in
      let b = laws.face_below (suc (suc n)) 0 (suc j) x is (omega arith) (omega arith) in
      λ k. (true, a k) ∷ ((false, b k) ∷ [])
  face_below_letter n zero j h g (false, x) is =
      let a = laws.face_below (suc (suc n)) 1 (suc j) x is (omega arith) (omega arith) in
      let b = laws.face_below (suc (suc n)) 0 (suc j) x is (omega arith) (omega arith) in
      λ k. (true, b k) ∷ ((false, a k) ∷ [])
  face_below_letter n (suc i) j h g l is =
      ap (λ y. (l.0, y) ∷ []) (laws.face_below (suc (suc n)) (suc (suc i)) (suc j) l.1 is (omega arith) (omega arith))

  face_below : (n i j : ℕ) (w : List (Letter A)) → InLoop A n w → i ≤ j → j < n → loop_face A i (loop_degeneracy A (suc j) w) ≡ loop_degeneracy A j (loop_face A i w)
  face_below zero i j w is h g = absurd (omega arith)
  face_below (suc n) i j w is h g =
      face_after i (suc j) w
      ∙ reduce-alike A (suc n) (λ l. face_letters A i (degeneracy_letter A (suc j) l)) (λ l. map (degeneracy_letter A j) (face_letters A i l))
      (λ l is v r. ap (λ u. acting A u v) (face_below_letter n i j h (omega arith) l is)) w is
      ∙ sym (degeneracy_after n i j w is (omega arith) (omega arith))

  face_above : (n i j : ℕ) (w : List (Letter A)) → InLoop A n w → j < i → i ≤ n → loop_face A (suc i) (loop_degeneracy A j w) ≡ loop_degeneracy A j (loop_face A i w)
  face_above n zero j w is h g = absurd (omega arith)
  face_above zero (suc i) j w is h g = absurd (omega arith)
  face_above (suc n) (suc i) j w is h g =
      face_after (suc (suc i)) j w
      ∙ reduce-alike A (suc n) (λ l. face_letters A (suc (suc i)) (degeneracy_letter A j l)) (λ l. map (degeneracy_letter A j) (face_letters A (suc i) l))
      (λ l is v r. ap (λ y. before A (l.0, y) v) (laws.face_above (suc (suc n)) (suc (suc i)) (suc j) l.1 is (omega arith) (omega arith))) w is
      ∙ sym (degeneracy_after n (suc i) j w is g (omega arith))

  degeneracy_degeneracy : (n i j : ℕ) (w : List (Letter A)) → InLoop A n w → i ≤ j → j ≤ n
      → loop_degeneracy A i (loop_degeneracy A j w) ≡ loop_degeneracy A (suc j) (loop_degeneracy A i w)
  degeneracy_degeneracy n i j [] is h g = refl
  degeneracy_degeneracy n i j (l ∷ w) is h g =
      λ k. (l.0, laws.degeneracy_degeneracy (suc n) (suc i) (suc j) l.1 is.0 (omega arith) (omega arith) k) ∷ degeneracy_degeneracy n i j w is.1 h g k

  -- equality of words
  same_is : (u v : List (Letter A)) → pointwise (same_letter A) u v ≡ true → u ≡ v
  same_is [] [] h = refl
  same_is [] (m ∷ v) h = absurd (true≢false (sym h))
  same_is (l ∷ u) [] h = absurd (true≢false (sym h))
  same_is (l ∷ u) (m ∷ v) h =
      let e = first_so (same_letter A l m) (pointwise (same_letter A) u v) h in
      let b = sign_is l.0 m.0 (first_so (cond l.0 m.0 (not m.0)) (A.same l.1 m.1) e) in
      let x = laws.same_is l.1 m.1 (second_so (cond l.0 m.0 (not m.0)) (A.same l.1 m.1) e) in
      λ k. (b k, x k) ∷ same_is u v (second_so (same_letter A l m) (pointwise (same_letter A) u v) h) k

  same_equivalence : IsEquivalence (pointwise (same_letter A))
  same_equivalence = lists_equiv (and_equiv (on_equiv (λ l. l.0) sign_equivalence) (on_equiv (λ l. l.1) laws.same_equivalence))

  pub reduced_face_in : (n i : ℕ) (w : List (Letter A)) → InLoop A (suc n) w → i ≤ suc n → InLoop A n (loop_face A i w) × IsReduced A (loop_face A i w)
  reduced_face_in n i w is h =
      rw (loop-face A i w) ((in-reduce A n (flat_map (face_letters A i) w) (faces_in A laws n i w is h), reduce-reduce A (flat_map (face_letters A i) w)))

  pub loop_set_laws : IsSimplicial (loop_set A)
  loop_set_laws = record {
    face_in = λ n i w is h. reduced_face_in n i w is.0 h;
    degeneracy_in = λ n i w is h. (degeneracies_in A laws n i w is.0 h, sym (degeneracy-reduce A laws n i w is.0 h) ∙ ap (loop_degeneracy A i) is.1);
    face_face = λ n i j w is h g. face_face n i j w is.0 h g;
    face_here = λ n j w is h. face_here n j w is.0 is.1 h;
    face_next = λ n j w is h. face_next n j w is.0 is.1 h;
    face_below = λ n i j w is h g. face_below n i j w is.0 h g;
    face_above = λ n i j w is h g. face_above n i j w is.0 h g;
    degeneracy_degeneracy = λ n i j w is h g. degeneracy_degeneracy n i j w is.0 h g;
    same_is = same_is;
    same_equivalence = same_equivalence;
  }
