-- Which degeneracies a degeneracy has: s_i of s_j y below, at and above j (Eilenberg and Zilber; May, Simplicial Objects in Algebraic
-- Topology, chapter I).
use Rattle.std.proofs.Common.{◌≡◌, ℕ, zero, suc, ◌<◌, ◌≤◌, Bool, true, false, ◌||◌, ◌⊎◌, inl, inr, refl, sym, ◌∙◌, ap, arith, true≢false}
use Rattle.std.proofs.lemmas.Bool.{cases_lt}
use Rattle.spaces.specs.Simplicial.{Simplicial, IsSimplicial, some_below, has_degeneracy}

-- tests that go both ways
both_ways : (a b : Bool) → (a ≡ true → b ≡ true) → (b ≡ true → a ≡ true) → a ≡ b
both_ways true b f g = sym (f refl)
both_ways false true f g = g refl
both_ways false false f g = refl

neither : (a b : Bool) → a || b ≡ false → (a ≡ false) × (b ≡ false)
neither true b h = absurd (true≢false h)
neither false b h = (refl, h)

-- a test that fails below n
pub none_below : (n : ℕ) (t : ℕ → Bool) → some_below n t ≡ false → (j : ℕ) → j < n → t j ≡ false
none_below zero t h j l = absurd (omega (arith, l))
none_below (suc n) t h j l = by (cases_lt j n) (λ k. none_below n t both.0 j k)
  where
    both : (some_below n t ≡ false) × (t n ≡ false)
    both = neither (some_below n t) (t n) h

    by : (j < n) ⊎ (n ≤ j) → (j < n → t j ≡ false) → t j ≡ false
    by (inl k) r = r k
    by (inr k) r = let e : j ≡ n = omega (arith, k, l) in ap t e ∙ both.1

pub all_fail : (n : ℕ) (t : ℕ → Bool) → ((j : ℕ) → j < n → t j ≡ false) → some_below n t ≡ false
all_fail zero t f = refl
all_fail (suc n) t f = (λ i. all_fail n t (λ j l. f j (omega (arith, l))) i || f n (omega arith) i)

module _ {K : Type 0} (X : Simplicial K) (laws : IsSimplicial X) where
  -- what is s_i of a simplex has the degeneracy i
  pub has_so : (n i : ℕ) (x z : K) → X.In n z → i ≤ n → x ≡ X.degeneracy i z → has_degeneracy X i x ≡ true
  has_so n i x z is l e =
      ap (has_degeneracy X i) e ∙ ap (λ y. X.same (X.degeneracy i z) (X.degeneracy i y)) (laws.face_here n i z is l)
      ∙ laws.same_equivalence.refl (X.degeneracy i z)

  pub has_is : (i : ℕ) (x : K) → has_degeneracy X i x ≡ true → x ≡ X.degeneracy i (X.face i x)
  has_is i x h = laws.same_is x (X.degeneracy i (X.face i x)) h

  pub has_here : (n j : ℕ) (y : K) → X.In n y → j ≤ n → has_degeneracy X j (X.degeneracy j y) ≡ true
  has_here n j y is l = has_so n j (X.degeneracy j y) y is l refl

  -- below j it has those of y
  pub has_lower : (n i j : ℕ) (y : K) → X.In n y → i < j → j ≤ n → has_degeneracy X i (X.degeneracy j y) ≡ has_degeneracy X i y
  has_lower zero i j y is h l = absurd (omega (arith, h, l))
  has_lower (suc m) i j y is h l = both_ways (has_degeneracy X i (X.degeneracy j y)) (has_degeneracy X i y) down up
    where
      down : has_degeneracy X i (X.degeneracy j y) ≡ true → has_degeneracy X i y ≡ true
      down g =
          let z : K = X.face i (X.degeneracy j y) in
          let iz : X.In (suc m) z = laws.face_in (suc m) i (X.degeneracy j y) (laws.degeneracy_in (suc m) j y is l) (omega (arith, h, l)) in
          has_so m i y (X.face j z) (laws.face_in m j z iz l) (omega (arith, h, l))
          (sym (laws.face_next (suc m) j y is l) ∙ ap (X.face (suc j)) (has_is i (X.degeneracy j y) g) ∙ laws.face_above (suc m) j i z iz h l)

      up : has_degeneracy X i y ≡ true → has_degeneracy X i (X.degeneracy j y) ≡ true
      up g = by j h l
        where
          z : K
          z = X.face i y

          iz : i ≤ suc m → X.In m z
          iz k = laws.face_in m i y is k

          by : (k : ℕ) → i < k → k ≤ suc m → has_degeneracy X i (X.degeneracy k y) ≡ true
          by zero a b = absurd (omega (arith, a))
          by (suc k) a b =
              has_so (suc m) i (X.degeneracy (suc k) y) (X.degeneracy k z) (laws.degeneracy_in m k z (iz (omega (arith, a, b))) (omega (arith, b))) (omega (arith, a, b))
              (ap (X.degeneracy (suc k)) (has_is i y g) ∙ sym (laws.degeneracy_degeneracy m i k z (iz (omega (arith, a, b))) (omega (arith, a)) (omega (arith, b))))

  -- above j it has those of y, one place higher
  pub has_higher : (n i j : ℕ) (y : K) → X.In n y → j ≤ i → i < n → has_degeneracy X (suc i) (X.degeneracy j y) ≡ has_degeneracy X i y
  has_higher zero i j y is h l = absurd (omega (arith, l))
  has_higher (suc m) i j y is h l = both_ways (has_degeneracy X (suc i) (X.degeneracy j y)) (has_degeneracy X i y) down up
    where
      in_degeneracy : X.In (suc (suc m)) (X.degeneracy j y)
      in_degeneracy = laws.degeneracy_in (suc m) j y is (omega (arith, h, l))

      down : has_degeneracy X (suc i) (X.degeneracy j y) ≡ true → has_degeneracy X i y ≡ true
      down g =
          let z : K = X.face (suc i) (X.degeneracy j y) in
          let iz : X.In (suc m) z = laws.face_in (suc m) (suc i) (X.degeneracy j y) in_degeneracy (omega (arith, l)) in
          has_so m i y (X.face j z) (laws.face_in m j z iz (omega (arith, h, l))) (omega (arith, l))
          (sym (laws.face_here (suc m) j y is (omega (arith, h, l))) ∙ ap (X.face j) (has_is (suc i) (X.degeneracy j y) g) ∙ laws.face_below (suc m) j i z iz h l)

      up : has_degeneracy X i y ≡ true → has_degeneracy X (suc i) (X.degeneracy j y) ≡ true
      up g =
          let z : K = X.face i y in
          let iz : X.In m z = laws.face_in m i y is (omega (arith, l)) in
          has_so (suc m) (suc i) (X.degeneracy j y) (X.degeneracy j z) (laws.degeneracy_in m j z iz (omega (arith, h, l))) l
          (ap (X.degeneracy j) (has_is i y g) ∙ laws.degeneracy_degeneracy m j i z iz h (omega (arith, l)))
