-- A simplicial set is a left part, with one term to each face, and a right system.
use Rattle.std.proofs.Common.{◌≡◌, ℕ, zero, suc, ◌-◌, ◌%◌, ◌<◌, ◌≤◌, List, [], ◌∷◌, ◌++◌, Bool, true, false, refl, sym, ◌∙◌, ap, subst, arith}
use Rattle.fp_field.specs.Chains.{Terms, weigh, scale}
use Rattle.fp_field.specs.Reduction.{one}
use Rattle.spaces.specs.Simplicial.{Simplicial, IsSimplicial, has_degeneracy}
use Rattle.spaces.specs.Orders.{Ordered}
use Rattle.spaces.specs.EilenbergZilber.{linear}
use Rattle.ez_laws.specs.Sides.{HasDegeneracies, IsLeft, IsRight}
use Rattle.ez_laws.proofs.WordFaces.{face, absd, len}
use Rattle.ez_laws.proofs.WordRanks.{fls, Above, len-face}
use Rattle.ez_laws.proofs.PairFaces.{RightSystem}
use Rattle.ez_laws.proofs.LeftSystems.{Cell, plain_cell, simplex, nf, Valid, simplex-in, nf-valid, nf-simplex, face-terms, nf-termed, absorbed-face, absorbed-valid}

pub both_ways : (a b : Bool) → (a ≡ true → b ≡ true) → (b ≡ true → a ≡ true) → a ≡ b
both_ways true b f g = sym (f refl)
both_ways false true f g = g refl
both_ways false false f g = refl

module _ {K : Type 0} (X : Simplicial K) (laws : IsSimplicial X) where
  -- what is an s_i has it
  pub has-of : (n i : ℕ) (x u : K) → X.In n u → i ≤ n → x ≡ X.degeneracy i u → has_degeneracy X i x ≡ true
  has-of n i x u is l e =
      ap (has_degeneracy X i) e
      ∙ ap (λ z. X.same (X.degeneracy i u) (X.degeneracy i z)) (laws.face_here n i u is l)
      ∙ laws.same_equivalence.refl (X.degeneracy i u)

  pub over-of : (i : ℕ) (x : K) → has_degeneracy X i x ≡ true → X.degeneracy i (X.face i x) ≡ x
  over-of i x e = sym (laws.same_is x (X.degeneracy i (X.face i x)) e)

  before-of : (n i j : ℕ) (x : K) → X.In n x → i < j → j ≤ n → has_degeneracy X i (X.degeneracy j x) ≡ has_degeneracy X i x
  before-of n i zero x is l b = absurd (omega (arith, l))
  before-of zero i (suc j) x is l b = absurd (omega (arith, b))
  before-of (suc m) i (suc j) x is l b =
      both_ways (has_degeneracy X i (X.degeneracy (suc j) x)) (has_degeneracy X i x)
      (λ h.
      let s : K = X.degeneracy (suc j) x in
      let z : K = X.face i s in
      let ins : X.In (suc (suc m)) s = laws.degeneracy_in (suc m) (suc j) x is b in
      let inz : X.In (suc m) z = laws.face_in (suc m) i s ins (omega (arith, l, b)) in
      has-of m i x (X.face (suc j) z) (laws.face_in m (suc j) z inz b) (omega (arith, l, b))
      (sym (laws.face_next (suc m) (suc j) x is b) ∙ ap (X.face (suc (suc j))) (sym (over-of i s h)) ∙ laws.face_above (suc m) (suc j) i z inz l b))
      (λ h.
      let y : K = X.face i x in
      let iny : X.In m y = laws.face_in m i x is (omega (arith, l, b)) in
      has-of (suc m) i (X.degeneracy (suc j) x) (X.degeneracy j y) (laws.degeneracy_in m j y iny (omega (arith, b))) (omega (arith, l, b))
      (ap (X.degeneracy (suc j)) (sym (over-of i x h)) ∙ sym (laws.degeneracy_degeneracy m i j y iny (omega (arith, l)) (omega (arith, b)))))

  after-of : (n i j : ℕ) (x : K) → X.In n x → j ≤ i → i < n → has_degeneracy X (suc i) (X.degeneracy j x) ≡ has_degeneracy X i x
  after-of zero i j x is l b = absurd (omega (arith, b))
  after-of (suc m) i j x is l b =
      both_ways (has_degeneracy X (suc i) (X.degeneracy j x)) (has_degeneracy X i x)
      (λ h.
      let s : K = X.degeneracy j x in
      let z : K = X.face (suc i) s in
      let ins : X.In (suc (suc m)) s = laws.degeneracy_in (suc m) j x is (omega (arith, l, b)) in
      let inz : X.In (suc m) z = laws.face_in (suc m) (suc i) s ins (omega (arith, b)) in
      has-of m i x (X.face j z) (laws.face_in m j z inz (omega (arith, l, b))) (omega (arith, b))
      (sym (laws.face_here (suc m) j x is (omega (arith, l, b))) ∙ ap (X.face j) (sym (over-of (suc i) s h)) ∙ laws.face_below (suc m) j i z inz l b))
      (λ h.
      let y : K = X.face i x in
      let iny : X.In m y = laws.face_in m i x is (omega (arith, b)) in
      has-of (suc m) (suc i) (X.degeneracy j x) (X.degeneracy j y) (laws.degeneracy_in m j y iny (omega (arith, l, b))) (omega (arith, b))
      (ap (X.degeneracy j) (sym (over-of i x h)) ∙ laws.degeneracy_degeneracy m j i y iny l (omega (arith, b))))

  pub degeneracies : HasDegeneracies X.In X.degeneracy (has_degeneracy X)
  degeneracies = record {
    under = X.face;
    degeneracy_in = laws.degeneracy_in;
    under_in = λ n j x is l e. laws.face_in n j x is (omega (arith, l));
    over = λ n j x is l e. over-of j x e;
    own = λ n j x is l. has-of n j (X.degeneracy j x) x is l refl;
    undone = laws.face_here;
    before = before-of;
    after = after-of;
    twice = laws.degeneracy_degeneracy;
  }

module _ (p : ℕ) (pos : 0 < p) {K : Type 0} (R : Ordered K) (right : IsRight R) where
  abbrev pub laws_of : IsSimplicial R.set
  laws_of = right.simplicial

  pub as_left : IsLeft p (linear R) R.set.In
  as_left = record {
    degeneracies = degeneracies R.set laws_of;
    faces_in = λ n i x is l. (laws_of.face_in n i x is l, tt);
    face_here = λ n j x is l. ap one (laws_of.face_here n j x is l);
    face_next = λ n j x is l. ap one (laws_of.face_next n j x is l);
    face_below = λ n i j x is l b. ap one (laws_of.face_below n i j x is l b);
    face_above = λ n i j x is l b. ap one (laws_of.face_above n i j x is l b);
    face_face = λ n i k x is a b w. ap (λ y. weigh w (scale 1 (one y) ++ []) % p) (laws_of.face_face n k i x is a b);
    order = right.order;
  }

  abbrev pub right_face : ℕ → List Bool × Cell p pos (linear R) R.set.In as_left → List Bool × Cell p pos (linear R) R.set.In as_left
  right_face i s = nf p pos (linear R) R.set.In as_left (len s.0 - 1) (R.set.face i (simplex p pos (linear R) R.set.In as_left s))

  pub right-face-at : (i n : ℕ) (s : List Bool × Cell p pos (linear R) R.set.In as_left) → len s.0 ≡ suc n
      → right_face i s ≡ nf p pos (linear R) R.set.In as_left n (R.set.face i (simplex p pos (linear R) R.set.In as_left s))
  right-face-at i n s l =
      ap (λ t. nf p pos (linear R) R.set.In as_left t (R.set.face i (simplex p pos (linear R) R.set.In as_left s))) (ap (λ t. t - 1) l ∙ (let q : suc n - 1 ≡ n = omega arith in q))

  pub right-face-nf : (i n : ℕ) (z : K) → R.set.In (suc n) z
      → right_face i (nf p pos (linear R) R.set.In as_left (suc n) z) ≡ nf p pos (linear R) R.set.In as_left n (R.set.face i z)
  right-face-nf i n z is =
      let r = nf-valid p pos (linear R) R.set.In as_left (suc n) z is in
      right-face-at i n (nf p pos (linear R) R.set.In as_left (suc n) z) r.0.0
      ∙ ap (λ y. nf p pos (linear R) R.set.In as_left n (R.set.face i y)) r.1

  abbrev pub first_key : K → Terms K → K
  first_key x [] = x
  first_key x (t ∷ c) = t.0

  pub right-absorbed : (i n : ℕ) (s : List Bool × Cell p pos (linear R) R.set.In as_left) → Valid p pos (linear R) R.set.In as_left (suc n) s → i ≤ suc n → absd i s.0 ≡ true
      → right_face i s ≡ (face i s.0, s.1)
  right-absorbed i n s v b e =
      let x : K = simplex p pos (linear R) R.set.In as_left s in
      right-face-at i n s v.0
      ∙ ap (nf p pos (linear R) R.set.In as_left n) (ap (first_key x) (absorbed-face p pos (linear R) R.set.In as_left i n s v b e))
      ∙ nf-simplex p pos (linear R) R.set.In as_left n (face i s.0, s.1) (absorbed-valid p pos (linear R) R.set.In as_left i n s v b e)

  pub right-twice : (i k n : ℕ) (s : List Bool × Cell p pos (linear R) R.set.In as_left) → Valid p pos (linear R) R.set.In as_left (suc (suc n)) s → i ≤ k → k ≤ suc n
      → right_face i (right_face (suc k) s) ≡ right_face k (right_face i s)
  right-twice i k n s v a b =
      let x : K = simplex p pos (linear R) R.set.In as_left s in
      let is : R.set.In (suc (suc n)) x = simplex-in p pos (linear R) R.set.In as_left (suc (suc n)) s v in
      ap (right_face i) (right-face-at (suc k) (suc n) s v.0)
      ∙ right-face-nf i n (R.set.face (suc k) x) (laws_of.face_in (suc n) (suc k) x is (omega (arith, b)))
      ∙ ap (nf p pos (linear R) R.set.In as_left n) (laws_of.face_face n k i x is a b)
      ∙ sym (ap (right_face k) (right-face-at i (suc n) s v.0) ∙ right-face-nf k n (R.set.face i x) (laws_of.face_in (suc n) i x is (omega (arith, a, b))))

  pub right-terms : (i n : ℕ) (s : List Bool × Cell p pos (linear R) R.set.In as_left) → Valid p pos (linear R) R.set.In as_left (suc n) s → i ≤ suc n
      → (fls (right_face i s).0 ≡ (right_face i s).1.0) × Above (face i s.0) (right_face i s).0 × plain_cell p pos (linear R) R.set.In as_left (right_face i s).1
  right-terms i n s v b =
      let x : K = simplex p pos (linear R) R.set.In as_left s in
      let lf = len-face i s.0 (omega (arith, v.0, b)) (omega (arith, v.0)) in
      subst (λ y. (fls y.0 ≡ y.1.0) × Above (face i s.0) y.0 × plain_cell p pos (linear R) R.set.In as_left y.1) (sym (right-face-at i n s v.0))
      (nf-termed p pos (linear R) R.set.In as_left n (face i s.0) (R.set.face i x) (omega (arith, lf, v.0)) (face-terms p pos (linear R) R.set.In as_left i n s v b).0)

  abbrev pub right_system : RightSystem
  right_system = record {
    X = Cell p pos (linear R) R.set.In as_left;
    dim = λ c. c.0;
    Is = plain_cell p pos (linear R) R.set.In as_left;
    face = right_face;
    terms = λ i n s l f is b. right-terms i n s (l, f, is) b;
    absorbed = λ i n s l f is b e. right-absorbed i n s (l, f, is) b e;
    twice = λ i k n s l f is a b. right-twice i k n s (l, f, is) a b;
  }
