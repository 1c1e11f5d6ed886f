-- Normalised chains of a simplicial set over F_p, their differential, cycles, boundaries and homology (May, Simplicial Objects,
-- chapter V, 22; any text on homology).
--
-- A chain is a list of simplices with numbers. Two chains are the same where they differ on degenerate simplices alone, which is the
-- quotient by degenerate simplices. d is the alternating sum of the faces, and 0 in degree 0, so every chain of degree 0 is a cycle.
-- A homology list of degree n has cycles such that each cycle is, with exactly one list of coefficients, their combination plus a
-- boundary: it is a list of representatives of a basis of the homology.
--
--   on the sphere of dimension 2 the list with the one chain S2 is a homology list of degree 2, and the empty one of degree 1
use Rattle.std.specs.Prelude.{◌≡◌, ℕ, zero, suc, ◌<◌, List, [], ◌++◌, ◌-◌, length}
use Rattle.std.specs.List.{All}
use Rattle.fp_field.specs.Chains.{Terms, scale, combination, extend, faces_sum, SameChain, Each}
use Rattle.spaces.specs.Simplicial.{Simplicial, is_degenerate}

module _ {K : Type 0} (X : Simplicial K) (p : ℕ) where
  -- the alternating sum of the faces, and 0 in degree 0
  abbrev pub boundary_of : ℕ → K → Terms K
  boundary_of zero x = []
  boundary_of (suc n) x = faces_sum p X.face (suc (suc n)) x

  abbrev pub boundary : ℕ → Terms K → Terms K
  boundary n c = extend (boundary_of n) c

  -- a chain of degree n
  abbrev pub IsChain : ℕ → Terms K → Type 0
  IsChain n c = Each (X.In n) c

  -- chains of degree n that count as one
  abbrev pub Same : ℕ → Terms K → Terms K → Type 0
  Same n c d = SameChain p X.same (is_degenerate X n) c d

  abbrev pub IsClosed : ℕ → Terms K → Type 0
  IsClosed zero z = Unit {0}
  IsClosed (suc n) z = Same n (boundary (suc n) z) []

  pub record IsCycle (n : ℕ) (z : Terms K) : Type 0 where
    pub chain : IsChain n z
    pub closed : IsClosed n z

  abbrev pub IsBoundary : ℕ → Terms K → Type 0
  IsBoundary n z = (w : Terms K) × IsChain (suc n) w × Same n z (boundary (suc n) w)

  -- z minus the combination is a boundary
  pub record IsExpressed (n : ℕ) (zs : List (Terms K)) (z : Terms K) (coefficients : List ℕ) : Type 0 where
    pub as_long : length coefficients ≡ length zs
    pub reduced : All (λ a. a < p) coefficients
    pub rest : IsBoundary n (z ++ scale (p - 1) (combination coefficients zs))

  -- each of zs is a cycle, and each cycle has exactly one list of coefficients
  pub record HomologyList (n : ℕ) (zs : List (Terms K)) : Type 0 where
    pub cycles : All (IsCycle n) zs
    pub spans : (z : Terms K) → IsCycle n z → (coefficients : List ℕ) × IsExpressed n zs z coefficients
    pub once : (z : Terms K) (a b : List ℕ) → IsCycle n z → IsExpressed n zs z a → IsExpressed n zs z b → a ≡ b
