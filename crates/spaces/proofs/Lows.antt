-- Degrees in which each simplex is degenerate: there each simplex is an s_0; and the lowest degree with another one, of pairs.
use Rattle.std.proofs.Common.{◌≡◌, ℕ, zero, suc, ◌<◌, ◌≤◌, min, Bool, true, false, ◌⊎◌, inl, inr, Option, Some, None, refl, sym, ◌∙◌, ap, subst, arith, true≢false}
use Rattle.std.proofs.lemmas.Bool.{cases_lt}
use Rattle.spaces.specs.Simplicial.{Simplicial, IsSimplicial, is_degenerate}
use Rattle.spaces.specs.Counts.{lesser, IsLowest, IsLow}
use Rattle.spaces.proofs.BaseTests.{IsBaseTest}
use Rattle.spaces.proofs.Degenerate.{degenerate_is, degenerate_so}

pub not_true : (b : Bool) → (b ≡ true → ⊥) → b ≡ false
not_true true h = absurd (h refl)
not_true false h = refl

-- degrees that are below the low
abbrev pub Below : Option ℕ → ℕ → Type 0
Below None k = Unit {0}
Below (Some n) k = k < n

module _ {K : Type 0} (X : Simplicial K) where
  -- each simplex of the degrees 1 to k is degenerate
  abbrev pub FlatTo : ℕ → Type 0
  FlatTo k = (i : ℕ) (x : K) → 0 < i → i ≤ k → X.In i x → is_degenerate X i x ≡ true

  pub flat_below : (low : Option ℕ) → IsLow X low → (k : ℕ) → Below low k → FlatTo k
  flat_below None is k b = λ i x p l ix. is i x p ix
  flat_below (Some n) is k b = λ i x p l ix. is.below i x p (omega arith) ix

  module _ (laws : IsSimplicial X) where
    -- a simplex has a vertex
    pub vertex_of : (n : ℕ) (x : K) → X.In n x → (v : K) × X.In 0 v
    vertex_of zero x is = (x, is)
    vertex_of (suc n) x is = vertex_of n (X.face 0 x) (laws.face_in n 0 x is (omega arith))

    -- s_0, n times
    pub raise : ℕ → K → K
    raise zero v = v
    raise (suc n) v = X.degeneracy 0 (raise n v)

    pub raise_in : (n : ℕ) (v : K) → X.In 0 v → X.In n (raise n v)
    unfolding raise
    raise_in zero v is = is
    raise_in (suc n) v is = laws.degeneracy_in n 0 (raise n v) (raise_in n v is) (omega arith)

    pub flat_first : (k : ℕ) (x : K) → FlatTo (suc k) → X.In (suc k) x → (y : K) × X.In k y × (x ≡ X.degeneracy 0 y)
    flat_first zero x flat is =
        let d = degenerate_is X laws 0 x is (flat 1 x (omega arith) (omega arith) is) in
        let e : d.0 ≡ 0 = (let l : d.0 ≤ 0 = d.2 in omega (arith, l)) in
        (d.1, d.3, d.4 ∙ ap (λ j. X.degeneracy j d.1) e)
    flat_first (suc k) x flat is = by d.0 d.1 d.2 d.3 d.4 (flat_first k d.1 (λ i y p l iy. flat i y p (omega arith) iy) d.3)
      where
        d : (j : ℕ) × (y : K) × (j ≤ suc k) × X.In (suc k) y × (x ≡ X.degeneracy j y)
        d = degenerate_is X laws (suc k) x is (flat (suc (suc k)) x (omega arith) (omega arith) is)

        by : (j : ℕ) (y : K) → j ≤ suc k → X.In (suc k) y → x ≡ X.degeneracy j y → (z : K) × X.In k z × (y ≡ X.degeneracy 0 z)
            → (y : K) × X.In (suc k) y × (x ≡ X.degeneracy 0 y)
        by zero y l iy e r = (y, iy, e)
        by (suc i) y l iy e r = (
          X.degeneracy i r.0,
          laws.degeneracy_in k i r.0 r.1 (omega arith),
          e ∙ ap (X.degeneracy (suc i)) r.2 ∙ sym (laws.degeneracy_degeneracy k 0 i r.0 r.1 (omega arith) (omega arith)),
        )

    -- there each simplex is a degeneracy of a vertex
    pub flat_base : (is_base : K → Bool) → IsBaseTest X is_base → (k : ℕ) (x : K) → FlatTo k → X.In k x → is_base x ≡ true
    flat_base is_base test zero x flat is = test.vertex x is
    flat_base is_base test (suc k) x flat is =
        let d = flat_first k x flat is in
        ap is_base d.2 ∙ test.degeneracy_base k 0 d.0 d.1 (omega arith) ∙ flat_base is_base test k d.0 (λ i y p l iy. flat i y p (omega arith) iy) d.1

-- ---- pairs: a simplicial set whose simplices are pairs and whose degeneracies act on both parts

module _ {K J : Type 0} (A : Simplicial K) (B : Simplicial J) (P : Simplicial (K × J)) (a : IsSimplicial A) (b : IsSimplicial B) (p : IsSimplicial P)
    (splits : (n : ℕ) (x : K × J) → P.In n x → A.In n x.0 × B.In n x.1) (joins : (n : ℕ) (x : K × J) → A.In n x.0 × B.In n x.1 → P.In n x)
    (degeneracies : (j : ℕ) (x : K × J) → P.degeneracy j x ≡ (A.degeneracy j x.0, B.degeneracy j x.1)) where
  pair_flat : (k : ℕ) → FlatTo A k → FlatTo B k → FlatTo P k
  pair_flat k fa fb zero x h l is = absurd (omega arith)
  pair_flat k fa fb (suc i) x h l is =
      let s = splits (suc i) x is in
      let u = flat_first A a i x.0 (λ n y q m iy. fa n y q (omega arith) iy) s.0 in
      let v = flat_first B b i x.1 (λ n y q m iy. fb n y q (omega arith) iy) s.1 in
      let e : x ≡ P.degeneracy 0 (u.0, v.0) = (λ t. (u.2 t, v.2 t)) ∙ sym (degeneracies 0 (u.0, v.0)) in
      ap (is_degenerate P (suc i)) e ∙ degenerate_so P p i 0 (u.0, v.0) (joins i (u.0, v.0) (u.1, v.1)) (omega arith)

  -- a pair is not degenerate where a part is not
  left_not : (n : ℕ) (x : K × J) → P.In (suc n) x → is_degenerate A (suc n) x.0 ≡ false → is_degenerate P (suc n) x ≡ false
  left_not n x is g =
      not_true (is_degenerate P (suc n) x) (λ h.
      let d = degenerate_is P p n x is h in
      let e : x.0 ≡ A.degeneracy d.0 d.1.0 = ap (λ (y : K × J). y.0) (d.4 ∙ degeneracies d.0 d.1) in
      true≢false (sym (degenerate_so A a n d.0 d.1.0 (splits n d.1 d.3).0 d.2) ∙ ap (is_degenerate A (suc n)) (sym e) ∙ g))

  right_not : (n : ℕ) (x : K × J) → P.In (suc n) x → is_degenerate B (suc n) x.1 ≡ false → is_degenerate P (suc n) x ≡ false
  right_not n x is g =
      not_true (is_degenerate P (suc n) x) (λ h.
      let d = degenerate_is P p n x is h in
      let e : x.1 ≡ B.degeneracy d.0 d.1.1 = ap (λ (y : K × J). y.1) (d.4 ∙ degeneracies d.0 d.1) in
      true≢false (sym (degenerate_so B b n d.0 d.1.1 (splits n d.1 d.3).1 d.2) ∙ ap (is_degenerate B (suc n)) (sym e) ∙ g))

  module _ (u : K) (u_in : A.In 0 u) (v : J) (v_in : B.In 0 v) where
    left_lowest : (m : ℕ) → IsLowest A m → ((k : ℕ) → k < m → FlatTo B k) → IsLowest P m
    left_lowest zero la fb = absurd (let h : 0 < 0 = la.positive in omega (arith, h))
    left_lowest (suc m) la fb =
        let is = joins (suc m) (la.simplex, raise B b (suc m) v) (la.is_in, raise_in B b (suc m) v v_in) in
        record {
          positive = la.positive;
          simplex = (la.simplex, raise B b (suc m) v);
          is_in = is;
          not_degenerate = left_not m (la.simplex, raise B b (suc m) v) is la.not_degenerate;
          below = λ k x h l ix. pair_flat k (λ i y q r iy. la.below i y q (omega arith) iy) (fb k l) k x h (omega arith) ix;
        }

    right_lowest : (m : ℕ) → IsLowest B m → ((k : ℕ) → k < m → FlatTo A k) → IsLowest P m
    right_lowest zero lb fa = absurd (let h : 0 < 0 = lb.positive in omega (arith, h))
    right_lowest (suc m) lb fa =
        let is = joins (suc m) (raise A a (suc m) u, lb.simplex) (raise_in A a (suc m) u u_in, lb.is_in) in
        record {
          positive = lb.positive;
          simplex = (raise A a (suc m) u, lb.simplex);
          is_in = is;
          not_degenerate = right_not m (raise A a (suc m) u, lb.simplex) is lb.not_degenerate;
          below = λ k x h l ix. pair_flat k (fa k l) (λ i y q r iy. lb.below i y q (omega arith) iy) k x h (omega arith) ix;
        }

    pub pair_low : (m n : Option ℕ) → IsLow A m → IsLow B n → IsLow P (lesser m n)
    pair_low None None la lb = λ k x h is. pair_flat k (flat_below A None la k tt) (flat_below B None lb k tt) k x h (omega arith) is
    pair_low None (Some n) la lb = right_lowest n lb (λ k h. flat_below A None la k tt)
    pair_low (Some m) None la lb = left_lowest m la (λ k h. flat_below B None lb k tt)
    pair_low (Some m) (Some n) la lb = by (cases_lt n m)
      where
        by : (n < m) ⊎ (m ≤ n) → IsLowest P (min m n)
        by (inl h) =
            let e : n ≡ min m n = omega arith in subst (IsLowest P) e (right_lowest n lb (λ k l. flat_below A (Some m) la k (let t : k < m = omega arith in t)))
        by (inr h) =
            let e : m ≡ min m n = omega arith in subst (IsLowest P) e (left_lowest m la (λ k l. flat_below B (Some n) lb k (let t : k < n = omega arith in t)))
