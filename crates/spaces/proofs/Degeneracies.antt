-- The law between two faces passes from a simplex to its degeneracies, by the laws between a face and a degeneracy.
use Rattle.std.proofs.Common.{◌≡◌, ℕ, suc, ◌-◌, ◌<◌, ◌≤◌, ◌⊎◌, inl, inr, refl, sym, ◌∙◌, ap, arith}
use Rattle.std.proofs.lemmas.Bool.{cases_lt}
use Rattle.spaces.specs.Simplicial.{Simplicial}

-- what a face does to a degeneracy
pub record MeetsFaces {K : Type 0} (X : Simplicial K) : Type 0 where
  pub face_in : (n i : ℕ) (x : K) → X.In (suc n) x → i ≤ suc n → X.In n (X.face i x)
  pub face_here : (n j : ℕ) (x : K) → X.In n x → j ≤ n → X.face j (X.degeneracy j x) ≡ x
  pub face_next : (n j : ℕ) (x : K) → X.In n x → j ≤ n → X.face (suc j) (X.degeneracy j x) ≡ x
  pub face_below : (n i j : ℕ) (x : K) → X.In n x → i ≤ j → j < n → X.face i (X.degeneracy (suc j) x) ≡ X.degeneracy j (X.face i x)
  pub face_above : (n i j : ℕ) (x : K) → X.In n x → j < i → i ≤ n → X.face (suc i) (X.degeneracy j x) ≡ X.degeneracy j (X.face i x)

module _ {K : Type 0} (X : Simplicial K) (laws : MeetsFaces X) where
  -- d_i s_k below, at and above k
  lower : (n i j k : ℕ) (x : K) → X.In n x → k ≡ suc j → i ≤ j → k ≤ n → X.face i (X.degeneracy k x) ≡ X.degeneracy j (X.face i x)
  lower n i j k x is e h l = ap (λ m. X.face i (X.degeneracy m x)) e ∙ laws.face_below n i j x is h (omega arith)

  at : (n i k : ℕ) (x : K) → X.In n x → k ≤ i → i ≤ suc k → k ≤ n → X.face i (X.degeneracy k x) ≡ x
  at n i k x is h l m = by (cases_lt k i)
    where
      by : (k < i) ⊎ (i ≤ k) → X.face i (X.degeneracy k x) ≡ x
      by (inl g) = let e : i ≡ suc k = omega arith in ap (λ a. X.face a (X.degeneracy k x)) e ∙ laws.face_next n k x is m
      by (inr g) = let e : i ≡ k = omega arith in ap (λ a. X.face a (X.degeneracy k x)) e ∙ laws.face_here n k x is m

  higher : (n i h k : ℕ) (x : K) → X.In n x → i ≡ suc h → k < h → h ≤ n → X.face i (X.degeneracy k x) ≡ X.degeneracy k (X.face h x)
  higher n i h k x is e l m = ap (λ a. X.face a (X.degeneracy k x)) e ∙ laws.face_above n h k x is l m

  -- the law at a simplex of degree n + 1, empty where n is 0
  abbrev pub FacesSwap : ℕ → K → Type 0
  FacesSwap n y = (i j : ℕ) → j ≤ i → i ≤ n → 0 < n → X.face j (X.face (suc i) y) ≡ X.face i (X.face j y)

  pub swap_after : (n i j k : ℕ) (y : K) → X.In (suc n) y → k ≤ suc n → j ≤ i → i ≤ suc n → FacesSwap n y
      → X.face j (X.face (suc i) (X.degeneracy k y)) ≡ X.face i (X.face j (X.degeneracy k y))
  swap_after n i j k y is b h l r = by (cases_lt (suc i) k) (cases_lt k i) (cases_lt j k) (cases_lt (suc k) j)
    where
      face : (m : ℕ) → m ≤ suc n → X.In n (X.face m y)
      face m g = laws.face_in n m y is g

      by : (suc i < k) ⊎ (k ≤ suc i) → (k < i) ⊎ (i ≤ k) → (j < k) ⊎ (k ≤ j) → (suc k < j) ⊎ (j ≤ suc k)
          → X.face j (X.face (suc i) (X.degeneracy k y)) ≡ X.face i (X.face j (X.degeneracy k y))
      by (inl p) q u v =
          ap (X.face j) (lower (suc n) (suc i) (k - 1) k y is (omega arith) (omega arith) b)
          ∙ lower n j (k - 1 - 1) (k - 1) (X.face (suc i) y) (face (suc i) (omega arith)) (omega arith) (omega arith) (omega arith)
          ∙ ap (X.degeneracy (k - 1 - 1)) (r i j h (omega arith) (omega arith))
          ∙ sym (ap (X.face i) (lower (suc n) j (k - 1) k y is (omega arith) (omega arith) b)
          ∙ lower n i (k - 1 - 1) (k - 1) (X.face j y) (face j (omega arith)) (omega arith) (omega arith) (omega arith))
      by (inr p) (inr q) (inl u) v =
          ap (X.face j) (at (suc n) (suc i) k y is p (omega arith) b)
          ∙ sym (ap (X.face i) (lower (suc n) j (k - 1) k y is (omega arith) (omega arith) b)
          ∙ at n i (k - 1) (X.face j y) (face j (omega arith)) (omega arith) (omega arith) (omega arith))
      by (inr p) (inr q) (inr u) v =
          let e : j ≡ i = omega arith in
          ap (X.face j) (at (suc n) (suc i) k y is p (omega arith) b) ∙ ap (λ m. X.face m y) e
          ∙ sym (ap (X.face i) (at (suc n) j k y is u (omega arith) b))
      by (inr p) (inl q) (inl u) v =
          let e : i ≡ suc (i - 1) = omega arith in
          ap (X.face j) (higher (suc n) (suc i) i k y is refl q l)
          ∙ lower n j (k - 1) k (X.face i y) (face i l) (omega arith) (omega arith) (omega arith)
          ∙ ap (X.degeneracy (k - 1)) (ap (λ m. X.face j (X.face m y)) e ∙ r (i - 1) j (omega arith) (omega arith) (omega arith))
          ∙ sym (ap (X.face i) (lower (suc n) j (k - 1) k y is (omega arith) (omega arith) b)
          ∙ higher n i (i - 1) (k - 1) (X.face j y) (face j (omega arith)) e (omega arith) (omega arith))
      by (inr p) (inl q) (inr u) (inr v) =
          ap (X.face j) (higher (suc n) (suc i) i k y is refl q l) ∙ at n j k (X.face i y) (face i l) u v (omega arith)
          ∙ sym (ap (X.face i) (at (suc n) j k y is u v b))
      by (inr p) (inl q) (inr u) (inl v) =
          let e : i ≡ suc (i - 1) = omega arith in
          let f : j ≡ suc (j - 1) = omega arith in
          ap (X.face j) (higher (suc n) (suc i) i k y is refl q l)
          ∙ higher n j (j - 1) k (X.face i y) (face i l) f (omega arith) (omega arith)
          ∙ ap (X.degeneracy k) (ap (λ m. X.face (j - 1) (X.face m y)) e ∙ r (i - 1) (j - 1) (omega arith) (omega arith) (omega arith))
          ∙ sym (ap (X.face i) (higher (suc n) j (j - 1) k y is f (omega arith) (omega arith))
          ∙ higher n i (i - 1) k (X.face (j - 1) y) (face (j - 1) (omega arith)) e (omega arith) (omega arith))
