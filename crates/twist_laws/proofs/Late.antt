-- What the twisting operator does on the last vertices: where b does not move after place p, p faces of t(b) are a unit, if the fibre
-- has one vertex (Shih 1962).
use Rattle.std.proofs.Common.{◌≡◌, ℕ, zero, suc, ◌+◌, ◌<◌, ◌≤◌, true, refl, sym, ◌∙◌, ap, subst, arith}
use Rattle.spaces.specs.Simplicial.{has_degeneracy}
use Rattle.spaces.specs.Orders.{Ordered}
use Rattle.spaces.specs.Products.{IsTwisting}
use Rattle.spaces.specs.EilenbergZilber.{linear, back}
use Rattle.ez_laws.specs.Sides.{IsRight}
use Rattle.ez_laws.proofs.SimplicialSides.{has-of, over-of, degeneracies}
use Rattle.twist_laws.proofs.Places.{low-has}

module _ (p : ℕ) {K J : Type 0} (Bo : Ordered K) (Fo : Ordered J) (base : IsRight Bo) (fibre : IsRight Fo)
    (t : K → J) (times : J → J → J) (w : IsTwisting Bo.set Fo.set t times) where
  abbrev pub behind : ℕ → J → J
  behind i y = back p (linear Bo) Fo i y

  pub behind-in : (i k n : ℕ) (y : J) → n ≡ i + k → Fo.set.In n y → Fo.set.In k (behind i y)
  behind-in zero k n y e is = subst (λ m. Fo.set.In m y) (let q : n ≡ k = omega (arith, e) in q) is
  behind-in (suc i) k zero y e is = absurd (omega (arith, e))
  behind-in (suc i) k (suc n) y e is = behind-in i k n (Fo.set.face 0 y) (omega (arith, e)) (fibre.simplicial.face_in n 0 y is (omega arith))

  pub behind-times : (i k n : ℕ) (x y : J) → n ≡ i + k → Fo.set.In n x → Fo.set.In n y → behind i (times x y) ≡ times (behind i x) (behind i y)
  behind-times zero k n x y e ix iy = refl
  behind-times (suc i) k zero x y e ix iy = absurd (omega (arith, e))
  behind-times (suc i) k (suc n) x y e ix iy =
      ap (behind i) (w.face_times n 0 x y ix iy (omega arith))
      ∙ behind-times i k n (Fo.set.face 0 x) (Fo.set.face 0 y) (omega (arith, e)) (fibre.simplicial.face_in n 0 x ix (omega arith)) (fibre.simplicial.face_in n 0 y iy (omega arith))

  -- the places after it
  pub behind-has : (i k n j : ℕ) (y : J) → n ≡ i + k → j < k → Fo.set.In n y → has_degeneracy Fo.set (i + j) y ≡ true → has_degeneracy Fo.set j (behind i y) ≡ true
  behind-has zero k n j y e l is h = subst (λ m. has_degeneracy Fo.set m y ≡ true) (let q : 0 + j ≡ j = omega arith in q) h
  behind-has (suc i) k zero j y e l is h = absurd (omega (arith, e))
  behind-has (suc i) k (suc n) j y e l is h =
      behind-has i k n j (Fo.set.face 0 y) (omega (arith, e)) l (fibre.simplicial.face_in n 0 y is (omega arith))
      (low-has Fo.set fibre.simplicial n 0 (i + j) y is (omega arith) (omega (arith, e, l)) (subst (λ m. has_degeneracy Fo.set m y ≡ true) (let q : suc i + j ≡ suc (i + j) = omega arith in q) h))

  -- degenerate at every place
  abbrev Flat : ℕ → J → Type 0
  Flat n x = (j : ℕ) → j < n → has_degeneracy Fo.set j x ≡ true

  t-has : (n j : ℕ) (b : K) → Bo.set.In (suc n) b → j < n → has_degeneracy Bo.set (suc j) b ≡ true → has_degeneracy Fo.set j (t b) ≡ true
  t-has zero j b is l e = absurd (omega (arith, l))
  t-has (suc n) j b is l e =
      let y : K = Bo.set.face (suc j) b in
      let iny : Bo.set.In (suc n) y = base.simplicial.face_in (suc n) (suc j) b is (omega (arith, l)) in
      has-of Fo.set fibre.simplicial n j (t b) (t y) (w.t_in n y iny) (omega (arith, l))
      (ap t (sym (over-of Bo.set base.simplicial (suc j) b e)) ∙ w.raised n j y iny (omega (arith, l)))

  module _ (alone : (x y : J) → Fo.set.In 0 x → Fo.set.In 0 y → x ≡ y) where
    flat-same : (n : ℕ) (x y : J) → Fo.set.In n x → Fo.set.In n y → Flat n x → Flat n y → x ≡ y
    flat-same zero x y ix iy f g = alone x y ix iy
    flat-same (suc n) x y ix iy f g =
        sym (over-of Fo.set fibre.simplicial 0 x (f 0 (omega arith)))
        ∙ ap (Fo.set.degeneracy 0)
        (flat-same n (Fo.set.face 0 x) (Fo.set.face 0 y) (fibre.simplicial.face_in n 0 x ix (omega arith)) (fibre.simplicial.face_in n 0 y iy (omega arith))
        (λ j l. low-has Fo.set fibre.simplicial n 0 j x ix (omega arith) l (f (suc j) (omega (arith, l))))
        (λ j l. low-has Fo.set fibre.simplicial n 0 j y iy (omega arith) l (g (suc j) (omega (arith, l)))))
        ∙ over-of Fo.set fibre.simplicial 0 y (g 0 (omega arith))

    -- b moves at place 0 at most
    flat-unit : (n : ℕ) (b : K) (x : J) → Bo.set.In (suc n) b → Fo.set.In n x → ((j : ℕ) → j < n → has_degeneracy Bo.set (suc j) b ≡ true) → times (t b) x ≡ x
    flat-unit n b x ib ix h =
        let b1 : K = Bo.set.face 0 b in
        let i1 : Bo.set.In n b1 = base.simplicial.face_in n 0 b ib (omega arith) in
        let i2 : Bo.set.In (suc n) (Bo.set.degeneracy 0 b1) = base.simplicial.degeneracy_in n 0 b1 i1 (omega arith) in
        ap (λ z. times z x)
        (flat-same n (t b) (t (Bo.set.degeneracy 0 b1)) (w.t_in n b ib) (w.t_in n (Bo.set.degeneracy 0 b1) i2) (λ j l. t-has n j b ib l (h j l))
        (λ j l. t-has n j (Bo.set.degeneracy 0 b1) i2 l
        ((degeneracies Bo.set base.simplicial).after n j 0 b1 i1 (omega arith) l ∙ low-has Bo.set base.simplicial n 0 j b ib (omega arith) l (h j l))))
        ∙ w.unit n b1 x i1 ix

    -- where b does not move after place p, p faces of t(b) are a unit
    pub late : (m n k : ℕ) (b : K) (x : J) → n ≡ m + k → Bo.set.In (suc n) b → ((j : ℕ) → suc m ≤ j → j < suc n → has_degeneracy Bo.set j b ≡ true) → Fo.set.In k x
        → times (behind m (t b)) x ≡ x
    late zero n k b x e ib h ix =
        flat-unit n b x ib (subst (λ m. Fo.set.In m x) (let q : k ≡ n = omega (arith, e) in q) ix) (λ j l. h (suc j) (omega arith) (omega (arith, l)))
    late (suc m) zero k b x e ib h ix = absurd (omega (arith, e))
    late (suc m) (suc n) k b x e ib h ix =
        let b0 : K = Bo.set.face 0 b in
        let b1 : K = Bo.set.face 1 b in
        let i0 : Bo.set.In (suc n) b0 = base.simplicial.face_in (suc n) 0 b ib (omega arith) in
        let i1 : Bo.set.In (suc n) b1 = base.simplicial.face_in (suc n) 1 b ib (omega arith) in
        let u : J = Fo.set.face 0 (t b) in
        let iu : Fo.set.In n u = fibre.simplicial.face_in n 0 (t b) (w.t_in (suc n) b ib) (omega arith) in
        let q : n ≡ m + k = omega (arith, e) in
        let h0 : (j : ℕ) → suc m ≤ j → j < suc n → has_degeneracy Bo.set j b0 ≡ true
        = λ j a l. low-has Bo.set base.simplicial (suc n) 0 j b ib (omega arith) l (h (suc j) (omega (arith, a)) (omega (arith, l))) in
        let h1 : (j : ℕ) → suc m ≤ j → j < suc n → has_degeneracy Bo.set j b1 ≡ true
        = λ j a l. low-has Bo.set base.simplicial (suc n) 1 j b ib (omega (arith, a)) l (h (suc j) (omega (arith, a)) (omega (arith, l))) in
        let same : behind m u ≡ behind m (t b1)
        = sym (late m n k b0 (behind m u) q i0 h0 (behind-in m k n u q iu)) ∙ sym (behind-times m k n (t b0) u q (w.t_in n b0 i0) iu) ∙ ap (behind m) (w.first n b ib) in
        ap (λ z. times z x) same ∙ late m n k b1 x q i1 h1 ix

    -- so the twist is not seen after p faces
    pub late-same : (m n k : ℕ) (b : K) (y : J) → n ≡ m + k → Bo.set.In (suc n) b → Fo.set.In n y → ((j : ℕ) → suc m ≤ j → j < suc n → has_degeneracy Bo.set j b ≡ true)
        → behind m (times (t b) y) ≡ behind m y
    late-same m n k b y e ib iy h = behind-times m k n (t b) y e (w.t_in n b ib) iy ∙ late m n k b (behind m y) e ib h (behind-in m k n y e iy)
