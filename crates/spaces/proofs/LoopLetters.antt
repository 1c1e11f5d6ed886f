-- The faces and degeneracies of letters: faces carry reduced forms to reduced forms, and degeneracies keep words reduced.
use Rattle.std.proofs.Common.{◌≡◌, ℕ, zero, suc, ◌≤◌, Bool, true, false, not, cond, ◌&&◌, List, [], ◌∷◌, map, refl, sym, ◌∙◌, ap, arith, flat_map}
use Rattle.std.proofs.lemmas.List.Concat.{flat_map_single}
use Rattle.spaces.specs.Simplicial.{Simplicial, IsSimplicial, has_degeneracy}
use Rattle.spaces.specs.LoopGroups.{Letter, cancels, before, reduce, first_face, loop_face, loop_degeneracy, InLoop}
use Rattle.spaces.proofs.Reduced.{flip, before-dropped, Irreducible, irreducible-before, acting, before-flip}
use Rattle.spaces.proofs.Letters.{in-reduce, in-spread, Respects}

cond_map : {X Y : Type 0} (f : X → Y) (b : Bool) (r s : List X) → map f (cond b r s) ≡ cond b (map f r) (map f s)
cond_map f true r s = refl
cond_map f false r s = refl

alike_by : (a b : Bool) → (a ≡ true → b ≡ true) → (b ≡ true → a ≡ true) → a ≡ b
alike_by true b f g = sym (f refl)
alike_by false true f g = g refl
alike_by false false f g = refl

module _ {K : Type 0} (A : Simplicial K) where
  -- the words of the faces of a letter
  abbrev pub face_letters : ℕ → Letter A → List (Letter A)
  face_letters zero (true, x) = (true, A.face 1 x) ∷ ((false, A.face 0 x) ∷ [])
  face_letters zero (false, x) = (true, A.face 0 x) ∷ ((false, A.face 1 x) ∷ [])
  face_letters (suc i) l = (l.0, A.face (suc (suc i)) l.1) ∷ []

  abbrev pub degeneracy_letter : ℕ → Letter A → Letter A
  degeneracy_letter i l = (l.0, A.degeneracy (suc i) l.1)

  first_face-spread : (w : List (Letter A)) → first_face A w ≡ flat_map (face_letters 0) w
  first_face-spread [] = refl
  first_face-spread ((true, x) ∷ w) = ap (λ u. (true, A.face 1 x) ∷ ((false, A.face 0 x) ∷ u)) (first_face-spread w)
  first_face-spread ((false, x) ∷ w) = ap (λ u. (true, A.face 0 x) ∷ ((false, A.face 1 x) ∷ u)) (first_face-spread w)

  pub loop-face : (i : ℕ) (w : List (Letter A)) → loop_face A i w ≡ reduce A (flat_map (face_letters i) w)
  loop-face zero w = ap (reduce A) (first_face-spread w)
  loop-face (suc i) w = ap (reduce A) (sym (flat_map_single (λ l. (l.0, A.face (suc (suc i)) l.1)) w))

  module _ (laws : IsSimplicial A) where
    -- s_0 of a simplex is one
    pub has_first : (n : ℕ) (x : K) → A.In n x → has_degeneracy A 0 (A.degeneracy 0 x) ≡ true
    has_first n x is =
        ap (λ y. A.same (A.degeneracy 0 x) (A.degeneracy 0 y)) (laws.face_here n 0 x is (omega arith))
        ∙ laws.same_equivalence.refl (A.degeneracy 0 x)

    has_first_is : (x : K) → has_degeneracy A 0 x ≡ true → x ≡ A.degeneracy 0 (A.face 0 x)
    has_first_is x h = laws.same_is x (A.degeneracy 0 (A.face 0 x)) h

    -- the faces of letters respect the group
    face_dropped : (n i : ℕ) (l : Letter A) → i ≤ suc n → A.In (suc (suc n)) l.1 → has_degeneracy A 0 l.1 ≡ true → (v : List (Letter A))
        → Irreducible A v → acting A (face_letters i l) v ≡ v
    face_dropped n zero (b, x) h is d v g =
        let z : A.In (suc n) (A.face 0 x) = laws.face_in (suc n) 0 x is (omega arith) in
        let e : A.face 1 x ≡ A.face 0 x = ap (A.face 1) (has_first_is x d) ∙ laws.face_next (suc n) 0 (A.face 0 x) z (omega arith) in
        by b e
      where
        by : (b : Bool) → A.face 1 x ≡ A.face 0 x → acting A (face_letters 0 (b, x)) v ≡ v
        by true e = ap (λ y. before A (true, y) (before A (false, A.face 0 x) v)) e ∙ before-flip A laws (true, A.face 0 x) v g
        by false e = ap (λ y. before A (true, A.face 0 x) (before A (false, y) v)) e ∙ before-flip A laws (true, A.face 0 x) v g
    face_dropped n (suc i) (b, x) h is d v g =
        let z : A.In (suc n) (A.face 0 x) = laws.face_in (suc n) 0 x is (omega arith) in
        let e : A.face (suc (suc i)) x ≡ A.degeneracy 0 (A.face (suc i) (A.face 0 x)) =
        ap (A.face (suc (suc i))) (has_first_is x d) ∙ laws.face_above (suc n) (suc i) 0 (A.face 0 x) z (omega arith) h in
        before-dropped A (b, A.face (suc (suc i)) x) v
        (ap (has_degeneracy A 0) e ∙ has_first n (A.face (suc i) (A.face 0 x)) (laws.face_in n (suc i) (A.face 0 x) z h))

    face_inverses : (i : ℕ) (l : Letter A) (v : List (Letter A)) → Irreducible A v
        → acting A (face_letters i l) (acting A (face_letters i (flip A l)) v) ≡ v
    face_inverses zero (true, x) v g =
        ap (before A (true, A.face 1 x)) (before-flip A laws (false, A.face 0 x) (before A (false, A.face 1 x) v) (irreducible-before A (false, A.face 1 x) v g))
        ∙ before-flip A laws (true, A.face 1 x) v g
    face_inverses zero (false, x) v g =
        ap (before A (true, A.face 0 x)) (before-flip A laws (false, A.face 1 x) (before A (false, A.face 0 x) v) (irreducible-before A (false, A.face 0 x) v g))
        ∙ before-flip A laws (true, A.face 0 x) v g
    face_inverses (suc i) l v g = before-flip A laws (l.0, A.face (suc (suc i)) l.1) v g

    pub face_respects : (n i : ℕ) → i ≤ suc n → Respects A (suc n) (face_letters i)
    face_respects n i h = record { dropped = λ l is d v g. face_dropped n i l h is d v g; inverses = λ l is v g. face_inverses i l v g }

    face_letters_in : (n i : ℕ) → i ≤ suc n → (l : Letter A) → A.In (suc (suc n)) l.1 → InLoop A n (face_letters i l)
    face_letters_in n zero h (true, x) is = (laws.face_in (suc n) 1 x is (omega arith), (laws.face_in (suc n) 0 x is (omega arith), tt))
    face_letters_in n zero h (false, x) is = (laws.face_in (suc n) 0 x is (omega arith), (laws.face_in (suc n) 1 x is (omega arith), tt))
    face_letters_in n (suc i) h l is = (laws.face_in (suc n) (suc (suc i)) l.1 is (omega arith), tt)

    pub faces_in : (n i : ℕ) (w : List (Letter A)) → InLoop A (suc n) w → i ≤ suc n → InLoop A n (flat_map (face_letters i) w)
    faces_in n i w is h = in-spread A (suc n) n (face_letters i) (face_letters_in n i h) w is

    -- degeneracies keep words reduced
    same_degenerate : (n i : ℕ) (x y : K) → A.In n x → A.In n y → i ≤ n → A.same (A.degeneracy i x) (A.degeneracy i y) ≡ A.same x y
    same_degenerate n i x y in_x in_y h =
        alike_by (A.same (A.degeneracy i x) (A.degeneracy i y)) (A.same x y)
        (λ e. ap (A.same x)
        (sym (laws.face_here n i y in_y h) ∙ ap (A.face i) (sym (laws.same_is (A.degeneracy i x) (A.degeneracy i y) e)) ∙ laws.face_here n i x in_x h)
        ∙ laws.same_equivalence.refl x)
        (λ e. ap (λ z. A.same (A.degeneracy i x) (A.degeneracy i z)) (sym (laws.same_is x y e)) ∙ laws.same_equivalence.refl (A.degeneracy i x))

    first_degenerate : (n i : ℕ) (x : K) → A.In (suc n) x → i ≤ n → has_degeneracy A 0 (A.degeneracy (suc i) x) ≡ has_degeneracy A 0 x
    first_degenerate n i x is h =
        let z : A.In n (A.face 0 x) = laws.face_in n 0 x is (omega arith) in
        ap (A.same (A.degeneracy (suc i) x))
        (ap (A.degeneracy 0) (laws.face_below (suc n) 0 i x is (omega arith) (omega arith))
        ∙ laws.degeneracy_degeneracy n 0 i (A.face 0 x) z (omega arith) h)
        ∙ same_degenerate (suc n) (suc i) x (A.degeneracy 0 (A.face 0 x)) is (laws.degeneracy_in n 0 (A.face 0 x) z (omega arith)) (omega arith)

    degeneracy-before : (n i : ℕ) (l : Letter A) (w : List (Letter A)) → A.In (suc n) l.1 → InLoop A n w → i ≤ n
        → loop_degeneracy A i (before A l w) ≡ before A (degeneracy_letter i l) (loop_degeneracy A i w)
    degeneracy-before n i l [] in_l is h =
        cond_map (degeneracy_letter i) (has_degeneracy A 0 l.1) [] (l ∷ [])
        ∙ ap (λ b. cond b [] (degeneracy_letter i l ∷ [])) (sym (first_degenerate n i l.1 in_l h))
    degeneracy-before n i l (m ∷ w) in_l is h =
        let d = degeneracy_letter i in
        cond_map d (has_degeneracy A 0 l.1) (m ∷ w) (cond (cancels A l m) w (l ∷ (m ∷ w)))
        ∙ ap (cond (has_degeneracy A 0 l.1) (map d (m ∷ w))) (cond_map d (cancels A l m) w (l ∷ (m ∷ w)))
        ∙ (λ k. cond (sym (first_degenerate n i l.1 in_l h) k) (map d (m ∷ w))
        (cond (sym (same_degenerate (suc n) (suc i) l.1 m.1 in_l is.0 (omega arith)) k && cond l.0 (not m.0) m.0) (map d w) (map d (l ∷ (m ∷ w)))))

    pub degeneracy-reduce : (n i : ℕ) (w : List (Letter A)) → InLoop A n w → i ≤ n
        → loop_degeneracy A i (reduce A w) ≡ reduce A (loop_degeneracy A i w)
    degeneracy-reduce n i [] is h = refl
    degeneracy-reduce n i (l ∷ w) is h =
        degeneracy-before n i l (reduce A w) is.0 (in-reduce A n w is.1) h ∙ ap (before A (degeneracy_letter i l)) (degeneracy-reduce n i w is.1 h)

    pub degeneracies_in : (n i : ℕ) (w : List (Letter A)) → InLoop A n w → i ≤ n → InLoop A (suc n) (loop_degeneracy A i w)
    degeneracies_in n i [] is h = tt
    degeneracies_in n i (l ∷ w) is h = (laws.degeneracy_in (suc n) (suc i) l.1 is.0 (omega arith), degeneracies_in n i w is.1 h)
