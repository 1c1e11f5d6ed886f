-- Simplicial sets by their faces and degeneracies (May, Simplicial Objects in Algebraic Topology, chapter I, 1).
--
-- A record of operations on a type of keys, and a record of the laws: d_j d_(i+1) = d_i d_j for j at most i, d_j s_j = d_(j+1) s_j = 1,
-- d_i s_(j+1) = s_j d_i for i at most j, d_(i+1) s_j = s_j d_i for i above j, and s_i s_j = s_(j+1) s_i for i at most j. Keys that are
-- no simplices of the degree at hand are not spoken of.
--
--   in the nerve of the integers |0|3| is degenerate: it is s_0 of its face |3|
use Rattle.std.specs.Prelude.{◌≡◌, ℕ, zero, suc, ◌<◌, ◌≤◌, Bool, true, false, ◌||◌}
use Rattle.std.specs.Cmp.{IsEquivalence}

pub record Simplicial (K : Type 0) : Type 1 where
  -- the simplices of each degree
  pub In : ℕ → K → Type 0
  pub face : ℕ → K → K
  pub degeneracy : ℕ → K → K
  pub same : K → K → Bool

abbrev pub some_below : ℕ → (ℕ → Bool) → Bool
some_below zero t = false
some_below (suc n) t = some_below n t || t n

-- x is s_j of something, which is then its face
abbrev pub has_degeneracy : {K : Type 0} → Simplicial K → ℕ → K → Bool
has_degeneracy X j x = X.same x (X.degeneracy j (X.face j x))

-- a simplex of degree n is degenerate
abbrev pub is_degenerate : {K : Type 0} → Simplicial K → ℕ → K → Bool
is_degenerate X n x = some_below n (λ j. has_degeneracy X j x)

pub record IsSimplicial {K : Type 0} (X : Simplicial K) : Type 0 where
  pub face_in : (n i : ℕ) (x : K) → X.In (suc n) x → i ≤ suc n → X.In n (X.face i x)
  pub degeneracy_in : (n i : ℕ) (x : K) → X.In n x → i ≤ n → X.In (suc n) (X.degeneracy i x)
  pub face_face : (n i j : ℕ) (x : K) → X.In (suc (suc n)) x → j ≤ i → i ≤ suc n → X.face j (X.face (suc i) x) ≡ X.face i (X.face j x)
  pub face_here : (n j : ℕ) (x : K) → X.In n x → j ≤ n → X.face j (X.degeneracy j x) ≡ x
  pub face_next : (n j : ℕ) (x : K) → X.In n x → j ≤ n → X.face (suc j) (X.degeneracy j x) ≡ x
  pub face_below : (n i j : ℕ) (x : K) → X.In n x → i ≤ j → j < n → X.face i (X.degeneracy (suc j) x) ≡ X.degeneracy j (X.face i x)
  pub face_above : (n i j : ℕ) (x : K) → X.In n x → j < i → i ≤ n → X.face (suc i) (X.degeneracy j x) ≡ X.degeneracy j (X.face i x)
  pub degeneracy_degeneracy : (n i j : ℕ) (x : K) → X.In n x → i ≤ j → j ≤ n → X.degeneracy i (X.degeneracy j x) ≡ X.degeneracy (suc j) (X.degeneracy i x)
  pub same_is : (x y : K) → X.same x y ≡ true → x ≡ y
  pub same_equivalence : IsEquivalence X.same
