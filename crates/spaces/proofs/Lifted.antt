-- The laws of a suspension at `up k y`, for a simplex y of the part, of a degree m: the base where y passes the test, and s_0 taken k
-- times on `Up y` otherwise. Faces and degeneracies act on the k first vertices or on y, and each law is one of cases on where.
use Rattle.std.proofs.Common.{◌≡◌, ℕ, zero, suc, ◌+◌, ◌-◌, ◌<◌, ◌≤◌, ◌⊎◌, inl, inr, Bool, true, false, cond, nat_lt, Option, Some, None, refl, sym, ◌∙◌, ap, subst, arith}
use Rattle.std.proofs.lemmas.Bool.{cases_lt}
use Rattle.simp_ops.proofs.PlacesOf.{is_lt, not_lt, is_le, not_le}
use Rattle.spaces.specs.Simplicial.{Simplicial, IsSimplicial}
use Rattle.spaces.specs.Suspensions.{up, suspension_set}
use Rattle.spaces.proofs.BaseTests.{IsBaseTest}

module _ {K : Type 0} (A : Simplicial K) (is_base : K → Bool) (laws : IsSimplicial A) (test : IsBaseTest A is_base) where
  abbrev pub X : Simplicial (Option (ℕ × K))
  X = suspension_set A is_base

  abbrev pub lifted : ℕ → K → Option (ℕ × K)
  lifted k y = up A is_base k y

  lifted-base : (k : ℕ) (y : K) → is_base y ≡ true → lifted k y ≡ None
  lifted-base k y e = ap (λ b. cond b None (Some (k, y))) e

  pub lifted-other : (k : ℕ) (y : K) → is_base y ≡ false → lifted k y ≡ Some (k, y)
  lifted-other k y e = ap (λ b. cond b None (Some (k, y))) e

  lifted-vertex : (k : ℕ) (y : K) → A.In 0 y → lifted k y ≡ None
  lifted-vertex k y is = lifted-base k y (test.vertex y is)

  -- ---- faces and degeneracies of `up k y`

  face-high : (i k a m : ℕ) (y : K) → A.In (suc m) y → a ≤ suc m → i ≡ suc (k + a) → X.face i (lifted k y) ≡ lifted k (A.face a y)
  face-high i k a m y is h e = by (is_base y) refl
    where
      by : (b : Bool) → is_base y ≡ b → X.face i (cond b None (Some (k, y))) ≡ lifted k (A.face a y)
      by true g = sym (lifted-base k (A.face a y) (test.face_base m a y is h g))
      by false g =
          let f : i - k - 1 ≡ a = omega arith in
          ap (λ b. cond b (lifted k (A.face (i - k - 1) y)) (cond (nat_lt 0 k) (Some (k - 1, y)) None)) (is_lt k i (omega arith)) ∙ ap (λ c. lifted k (A.face c y)) f

  face-low : (i k : ℕ) (y : K) → i ≤ suc k → X.face i (lifted (suc k) y) ≡ lifted k y
  face-low i k y h = by (is_base y)
    where
      by : (b : Bool) → X.face i (cond b None (Some (suc k, y))) ≡ cond b None (Some (k, y))
      by true = refl
      by false =
          let f : suc k - 1 ≡ k = omega arith in
          ap (λ b. cond b (lifted (suc k) (A.face (i - suc k - 1) y)) (cond (nat_lt 0 (suc k)) (Some (suc k - 1, y)) None)) (not_lt (suc k) i h)
          ∙ ap (λ b. cond b (Some (suc k - 1, y)) None) (is_lt 0 (suc k) (omega arith)) ∙ ap (λ l. Some (l, y)) f

  face-first : (i : ℕ) (y : K) → i ≤ 0 → X.face i (lifted 0 y) ≡ None
  face-first i y h = by (is_base y)
    where
      by : (b : Bool) → X.face i (cond b None (Some (0, y))) ≡ None
      by true = refl
      by false =
          ap (λ b. cond b (lifted 0 (A.face (i - 0 - 1) y)) (cond (nat_lt 0 0) (Some (0 - 1, y)) None)) (not_lt 0 i h)
          ∙ ap (λ b. cond b (Some (0 - 1, y)) None) (not_lt 0 0 (omega arith))

  degeneracy-low : (i k : ℕ) (y : K) → i ≤ k → X.degeneracy i (lifted k y) ≡ lifted (suc k) y
  degeneracy-low i k y h = by (is_base y)
    where
      by : (b : Bool) → X.degeneracy i (cond b None (Some (k, y))) ≡ cond b None (Some (suc k, y))
      by true = refl
      by false = ap (λ b. cond b (Some (suc k, y)) (Some (k, A.degeneracy (i - k - 1) y))) (is_le i k h)

  degeneracy-high : (i k a m : ℕ) (y : K) → A.In m y → a ≤ m → i ≡ suc (k + a) → X.degeneracy i (lifted k y) ≡ lifted k (A.degeneracy a y)
  degeneracy-high i k a m y is h e = by (is_base y) refl
    where
      there : i - k - 1 ≡ a
      there = omega arith

      by : (b : Bool) → is_base y ≡ b → X.degeneracy i (cond b None (Some (k, y))) ≡ lifted k (A.degeneracy a y)
      by true g = sym (lifted-base k (A.degeneracy a y) (test.degeneracy_base m a y is h ∙ g))
      by false g =
          ap (λ b. cond b (Some (suc k, y)) (Some (k, A.degeneracy (i - k - 1) y))) (not_le i k (omega arith))
          ∙ ap (λ c. Some (k, A.degeneracy c y)) there
          ∙ sym (lifted-other k (A.degeneracy a y) (test.degeneracy_base m a y is h ∙ g))

  lifted_in : (n k m : ℕ) (y : K) → A.In m y → n ≡ suc (k + m) → X.In n (lifted k y)
  lifted_in n k m y is e = by (is_base y) refl
    where
      by : (b : Bool) → is_base y ≡ b → X.In n (cond b None (Some (k, y)))
      by true g = tt
      by false g = let f : m ≡ n - 1 - k = omega arith in (omega arith, subst (λ l. A.In l y) f is, g)

  -- ---- the laws at `up k y`

  -- a place is i - k - 1 in y, or among the first
  abbrev pub Place : ℕ → ℕ → Type 0
  Place k i = ((a : ℕ) × (i ≡ suc (k + a))) ⊎ (i ≤ k)

  pub place : (k i : ℕ) → Place k i
  place k i = by (cases_lt k i)
    where
      by : (k < i) ⊎ (i ≤ k) → Place k i
      by (inl h) = inl (i - k - 1, omega arith)
      by (inr h) = inr h

  pub face_in : (n i k m : ℕ) (y : K) → A.In m y → suc n ≡ suc (k + m) → i ≤ suc n → Place k i → X.In n (X.face i (lifted k y))
  face_in n i k zero y is e h p = subst (λ u. X.In n (X.face i u)) (sym (lifted-vertex k y is)) tt
  face_in n i k (suc m) y is e h (inl p) =
      subst (X.In n) (sym (face-high i k p.0 m y is (omega (arith, p.1)) p.1))
      (lifted_in n k m (A.face p.0 y) (laws.face_in m p.0 y is (omega (arith, p.1))) (omega arith))
  face_in n i zero (suc m) y is e h (inr p) = subst (X.In n) (sym (face-first i y p)) tt
  face_in n i (suc k) (suc m) y is e h (inr p) = subst (X.In n) (sym (face-low i k y p)) (lifted_in n k (suc m) y is (omega arith))

  pub degeneracy_in : (n i k m : ℕ) (y : K) → A.In m y → n ≡ suc (k + m) → i ≤ n → Place k i → X.In (suc n) (X.degeneracy i (lifted k y))
  degeneracy_in n i k m y is e h (inl p) =
      subst (X.In (suc n)) (sym (degeneracy-high i k p.0 m y is (omega (arith, p.1)) p.1))
      (lifted_in (suc n) k (suc m) (A.degeneracy p.0 y) (laws.degeneracy_in m p.0 y is (omega (arith, p.1))) (omega arith))
  degeneracy_in n i k m y is e h (inr p) = subst (X.In (suc n)) (sym (degeneracy-low i k y p)) (lifted_in (suc n) (suc k) m y is (omega arith))

  -- two faces of y
  faces_high : (a b i j k m : ℕ) (y : K) → A.In m y → b ≤ a → suc a ≤ m → i ≡ suc (k + a) → j ≡ suc (k + b)
      → X.face j (X.face (suc i) (lifted k y)) ≡ X.face i (X.face j (lifted k y))
  faces_high a b i j k zero y is h l e f = absurd (omega arith)
  faces_high a b i j k (suc zero) y is h l e f =
      ap (X.face j) (face-high (suc i) k (suc a) 0 y is l (omega arith) ∙ lifted-vertex k (A.face (suc a) y) (laws.face_in 0 (suc a) y is l))
      ∙ sym (ap (X.face i) (face-high j k b 0 y is (omega arith) f ∙ lifted-vertex k (A.face b y) (laws.face_in 0 b y is (omega arith))))
  faces_high a b i j k (suc (suc m)) y is h l e f =
      ap (X.face j) (face-high (suc i) k (suc a) (suc m) y is l (omega arith))
      ∙ face-high j k b m (A.face (suc a) y) (laws.face_in (suc m) (suc a) y is l) (omega arith) f
      ∙ ap (lifted k) (laws.face_face m a b y is h (omega arith))
      ∙ sym (ap (X.face i) (face-high j k b (suc m) y is (omega arith) f) ∙ face-high i k a m (A.face b y) (laws.face_in (suc m) b y is (omega arith)) (omega arith) e)

  -- one of them among the first
  faces_apart : (a i j k m : ℕ) (y : K) → A.In (suc m) y → j ≤ k → a ≤ suc m → i ≡ k + a
      → X.face j (X.face (suc i) (lifted k y)) ≡ X.face i (X.face j (lifted k y))
  faces_apart a i j zero m y is h l e =
      ap (X.face j) (face-high (suc i) 0 a m y is l (omega arith)) ∙ face-first j (A.face a y) h ∙ sym (ap (X.face i) (face-first j y h))
  faces_apart a i j (suc k) m y is h l e =
      ap (X.face j) (face-high (suc i) (suc k) a m y is l (omega arith)) ∙ face-low j k (A.face a y) h
      ∙ sym (ap (X.face i) (face-low j k y h) ∙ face-high i k a m y is l (omega arith))

  faces_low : (i j k : ℕ) (y : K) → j ≤ i → i < k → X.face j (X.face (suc i) (lifted k y)) ≡ X.face i (X.face j (lifted k y))
  faces_low i j zero y h l = absurd (omega arith)
  faces_low i j (suc zero) y h l =
      ap (X.face j) (face-low (suc i) 0 y (omega arith)) ∙ face-first j y (omega arith)
      ∙ sym (ap (X.face i) (face-low j 0 y (omega arith)) ∙ face-first i y (omega arith))
  faces_low i j (suc (suc k)) y h l =
      ap (X.face j) (face-low (suc i) (suc k) y (omega arith)) ∙ face-low j k y (omega arith)
      ∙ sym (ap (X.face i) (face-low j (suc k) y (omega arith)) ∙ face-low i k y (omega arith))

  -- degree 0 has the base alone
  at_vertex : (k : ℕ) (y : K) (f g : Option (ℕ × K) → Option (ℕ × K)) → A.In 0 y → f None ≡ g None → f (lifted k y) ≡ g (lifted k y)
  at_vertex k y f g is e = ap f (lifted-vertex k y is) ∙ e ∙ sym (ap g (lifted-vertex k y is))

  pub face-face : (n i j k m : ℕ) (y : K) → A.In m y → suc (suc n) ≡ suc (k + m) → j ≤ i → i ≤ suc n → Place k j → (i < k) ⊎ (k ≤ i)
      → X.face j (X.face (suc i) (lifted k y)) ≡ X.face i (X.face j (lifted k y))
  face-face n i j k zero y is e h l p q = at_vertex k y (λ u. X.face j (X.face (suc i) u)) (λ u. X.face i (X.face j u)) is refl
  face-face n i j k (suc m) y is e h l (inl p) q =
      faces_high (i - k - 1) p.0 i j k (suc m) y is (omega (arith, p.1)) (omega (arith, p.1)) (omega (arith, p.1)) p.1
  face-face n i j k (suc m) y is e h l (inr p) (inl q) = faces_low i j k y h q
  face-face n i j k (suc m) y is e h l (inr p) (inr q) = faces_apart (i - k) i j k m y is p (omega arith) (omega arith)

  pub face-here : (n j k m : ℕ) (y : K) → A.In m y → n ≡ suc (k + m) → j ≤ n → Place k j → X.face j (X.degeneracy j (lifted k y)) ≡ lifted k y
  face-here n j k m y is e h (inl p) =
      ap (X.face j) (degeneracy-high j k p.0 m y is (omega (arith, p.1)) p.1)
      ∙ face-high j k p.0 m (A.degeneracy p.0 y) (laws.degeneracy_in m p.0 y is (omega (arith, p.1))) (omega (arith, p.1)) p.1
      ∙ ap (lifted k) (laws.face_here m p.0 y is (omega (arith, p.1)))
  face-here n j k m y is e h (inr p) = ap (X.face j) (degeneracy-low j k y p) ∙ face-low j k y (omega arith)

  pub face-next : (n j k m : ℕ) (y : K) → A.In m y → n ≡ suc (k + m) → j ≤ n → Place k j → X.face (suc j) (X.degeneracy j (lifted k y)) ≡ lifted k y
  face-next n j k m y is e h (inl p) =
      ap (X.face (suc j)) (degeneracy-high j k p.0 m y is (omega (arith, p.1)) p.1)
      ∙ face-high (suc j) k (suc p.0) m (A.degeneracy p.0 y) (laws.degeneracy_in m p.0 y is (omega (arith, p.1))) (omega (arith, p.1)) (omega (arith, p.1))
      ∙ ap (lifted k) (laws.face_next m p.0 y is (omega (arith, p.1)))
  face-next n j k m y is e h (inr p) = ap (X.face (suc j)) (degeneracy-low j k y p) ∙ face-low (suc j) k y (omega arith)

  below_low : (i j k : ℕ) (y : K) → i ≤ j → j < k → X.face i (X.degeneracy (suc j) (lifted k y)) ≡ X.degeneracy j (X.face i (lifted k y))
  below_low i j zero y h l = absurd (omega arith)
  below_low i j (suc k) y h l =
      ap (X.face i) (degeneracy-low (suc j) (suc k) y l) ∙ face-low i (suc k) y (omega arith)
      ∙ sym (ap (X.degeneracy j) (face-low i k y (omega arith)) ∙ degeneracy-low j k y (omega arith))

  below_apart : (a i j k m : ℕ) (y : K) → A.In m y → i ≤ k → a ≤ m → j ≡ k + a
      → X.face i (X.degeneracy (suc j) (lifted k y)) ≡ X.degeneracy j (X.face i (lifted k y))
  below_apart a i j zero m y is h l e =
      ap (X.face i) (degeneracy-high (suc j) 0 a m y is l (omega arith)) ∙ face-first i (A.degeneracy a y) h ∙ sym (ap (X.degeneracy j) (face-first i y h))
  below_apart a i j (suc k) m y is h l e =
      ap (X.face i) (degeneracy-high (suc j) (suc k) a m y is l (omega arith)) ∙ face-low i k (A.degeneracy a y) h
      ∙ sym (ap (X.degeneracy j) (face-low i k y h) ∙ degeneracy-high j k a m y is l (omega arith))

  below_high : (a b i j k m : ℕ) (y : K) → A.In (suc m) y → b ≤ a → a ≤ m → i ≡ suc (k + b) → j ≡ suc (k + a)
      → X.face i (X.degeneracy (suc j) (lifted k y)) ≡ X.degeneracy j (X.face i (lifted k y))
  below_high a b i j k m y is h l e f =
      ap (X.face i) (degeneracy-high (suc j) k (suc a) (suc m) y is (omega arith) (omega arith))
      ∙ face-high i k b (suc m) (A.degeneracy (suc a) y) (laws.degeneracy_in (suc m) (suc a) y is (omega arith)) (omega arith) e
      ∙ ap (lifted k) (laws.face_below (suc m) b a y is h (omega arith))
      ∙ sym (ap (X.degeneracy j) (face-high i k b m y is (omega arith) e) ∙ degeneracy-high j k a m (A.face b y) (laws.face_in m b y is (omega arith)) l f)

  pub face-below : (n i j k m : ℕ) (y : K) → A.In m y → n ≡ suc (k + m) → i ≤ j → j < n → Place k i → (j < k) ⊎ (k ≤ j)
      → X.face i (X.degeneracy (suc j) (lifted k y)) ≡ X.degeneracy j (X.face i (lifted k y))
  face-below n i j k zero y is e h l p q = at_vertex k y (λ u. X.face i (X.degeneracy (suc j) u)) (λ u. X.degeneracy j (X.face i u)) is refl
  face-below n i j k (suc m) y is e h l (inl p) q =
      below_high (j - k - 1) p.0 i j k m y is (omega (arith, p.1)) (omega (arith, p.1)) p.1 (omega (arith, p.1))
  face-below n i j k (suc m) y is e h l (inr p) (inl q) = below_low i j k y h q
  face-below n i j k (suc m) y is e h l (inr p) (inr q) = below_apart (j - k) i j k (suc m) y is p (omega arith) (omega arith)

  above_low : (i j k : ℕ) (y : K) → j < i → i ≤ k → X.face (suc i) (X.degeneracy j (lifted k y)) ≡ X.degeneracy j (X.face i (lifted k y))
  above_low i j zero y h l = absurd (omega arith)
  above_low i j (suc k) y h l =
      ap (X.face (suc i)) (degeneracy-low j (suc k) y (omega arith)) ∙ face-low (suc i) (suc k) y (omega arith)
      ∙ sym (ap (X.degeneracy j) (face-low i k y l) ∙ degeneracy-low j k y (omega arith))

  above_apart : (b i j k m : ℕ) (y : K) → A.In (suc m) y → j ≤ k → b ≤ suc m → i ≡ suc (k + b)
      → X.face (suc i) (X.degeneracy j (lifted k y)) ≡ X.degeneracy j (X.face i (lifted k y))
  above_apart b i j k m y is h l e =
      ap (X.face (suc i)) (degeneracy-low j k y h) ∙ face-high (suc i) (suc k) b m y is l (omega arith)
      ∙ sym (ap (X.degeneracy j) (face-high i k b m y is l e) ∙ degeneracy-low j k (A.face b y) h)

  above_high : (a b i j k m : ℕ) (y : K) → A.In (suc m) y → a < b → b ≤ suc m → i ≡ suc (k + b) → j ≡ suc (k + a)
      → X.face (suc i) (X.degeneracy j (lifted k y)) ≡ X.degeneracy j (X.face i (lifted k y))
  above_high a b i j k m y is h l e f =
      ap (X.face (suc i)) (degeneracy-high j k a (suc m) y is (omega arith) f)
      ∙ face-high (suc i) k (suc b) (suc m) (A.degeneracy a y) (laws.degeneracy_in (suc m) a y is (omega arith)) (omega arith) (omega arith)
      ∙ ap (lifted k) (laws.face_above (suc m) b a y is h l)
      ∙ sym (ap (X.degeneracy j) (face-high i k b m y is l e) ∙ degeneracy-high j k a m (A.face b y) (laws.face_in m b y is l) (omega arith) f)

  pub face-above : (n i j k m : ℕ) (y : K) → A.In m y → n ≡ suc (k + m) → j < i → i ≤ n → Place k j → Place k i
      → X.face (suc i) (X.degeneracy j (lifted k y)) ≡ X.degeneracy j (X.face i (lifted k y))
  face-above n i j k zero y is e h l p q = at_vertex k y (λ u. X.face (suc i) (X.degeneracy j u)) (λ u. X.degeneracy j (X.face i u)) is refl
  face-above n i j k (suc m) y is e h l (inl p) (inl q) =
      above_high p.0 q.0 i j k m y is (omega (arith, p.1, q.1)) (omega (arith, q.1)) q.1 p.1
  face-above n i j k (suc m) y is e h l (inl p) (inr q) = absurd (omega (arith, p.1))
  face-above n i j k (suc m) y is e h l (inr p) (inl q) = above_apart q.0 i j k m y is p (omega (arith, q.1)) q.1
  face-above n i j k (suc m) y is e h l (inr p) (inr q) = above_low i j k y h q

  pub degeneracy-degeneracy : (n i j k m : ℕ) (y : K) → A.In m y → n ≡ suc (k + m) → i ≤ j → j ≤ n → Place k i → Place k j
      → X.degeneracy i (X.degeneracy j (lifted k y)) ≡ X.degeneracy (suc j) (X.degeneracy i (lifted k y))
  degeneracy-degeneracy n i j k m y is e h l (inl p) (inl q) =
      ap (X.degeneracy i) (degeneracy-high j k q.0 m y is (omega (arith, q.1)) q.1)
      ∙ degeneracy-high i k p.0 (suc m) (A.degeneracy q.0 y) (laws.degeneracy_in m q.0 y is (omega (arith, q.1))) (omega (arith, p.1)) p.1
      ∙ ap (lifted k) (laws.degeneracy_degeneracy m p.0 q.0 y is (omega (arith, p.1, q.1)) (omega (arith, q.1)))
      ∙ sym (ap (X.degeneracy (suc j)) (degeneracy-high i k p.0 m y is (omega (arith, p.1)) p.1)
      ∙ degeneracy-high (suc j) k (suc q.0) (suc m) (A.degeneracy p.0 y) (laws.degeneracy_in m p.0 y is (omega (arith, p.1))) (omega (arith, q.1)) (omega (arith, q.1)))
  degeneracy-degeneracy n i j k m y is e h l (inl p) (inr q) = absurd (omega (arith, p.1))
  degeneracy-degeneracy n i j k m y is e h l (inr p) (inl q) =
      ap (X.degeneracy i) (degeneracy-high j k q.0 m y is (omega (arith, q.1)) q.1) ∙ degeneracy-low i k (A.degeneracy q.0 y) p
      ∙ sym (ap (X.degeneracy (suc j)) (degeneracy-low i k y p) ∙ degeneracy-high (suc j) (suc k) q.0 m y is (omega (arith, q.1)) (omega (arith, q.1)))
  degeneracy-degeneracy n i j k m y is e h l (inr p) (inr q) =
      ap (X.degeneracy i) (degeneracy-low j k y q) ∙ degeneracy-low i (suc k) y (omega arith)
      ∙ sym (ap (X.degeneracy (suc j)) (degeneracy-low i k y p) ∙ degeneracy-low (suc j) (suc k) y (omega arith))
