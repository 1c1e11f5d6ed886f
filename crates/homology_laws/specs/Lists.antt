-- The homology of a complex that is given by its generators, and bases of its chains of one degree (any text on homology; Rubio and
-- Sergeraert, Constructive Homological Algebra and Applications, chapter 2).
--
-- A cycle is a chain of one degree whose differential is 0. A homology list of a degree has cycles such that each cycle is, with
-- exactly one list of coefficients, their combination plus a boundary. Where a degree has a finite base, a chain is as good as its
-- vector of numbers, one number for each generator of the base.
--
--   over the generators x, y the chain 2 x + y has the vector (2,1), and so has x + y + x
use Rattle.std.specs.Prelude.{◌≡◌, ◌↔◌, ℕ, suc, ◌-◌, ◌<◌, ◌%◌, Bool, true, false, List, [], ◌∷◌, ◌++◌, map, length}
use Rattle.std.specs.List.{All, AllPairs, list_any}
use Rattle.fp_field.specs.Chains.{Terms, coeff, scale, extend, combination, Each}
use Rattle.fp_field.specs.Reduction.{SameTerms, Complex}
use Rattle.echelons.specs.Echelon.{Vector, IsVector, vector_plus, combined, reduced_basis, complement, in_span}
use Rattle.homology_laws.specs.Pivots.{IsThrifty}

-- ---- chains and vectors

-- the chain with these numbers at the generators of a list
abbrev pub chain_on : {K : Type 0} → List K → Vector → Terms K
chain_on [] v = []
chain_on (y ∷ ys) [] = []
chain_on (y ∷ ys) (a ∷ v) = (y, a) ∷ chain_on ys v

-- the numbers of a chain at the generators of a list
abbrev pub numbers_at : {K : Type 0} → ℕ → (K → K → Bool) → List K → Terms K → Vector
numbers_at p same ys c = map (λ y. coeff same c y % p) ys

-- the number of vectors in a basis of the span of vectors of a width
abbrev pub rank : ℕ → ℕ → List Vector → ℕ
rank p w vs = length (reduced_basis p w (in_span p w vs))

module _ {K : Type 0} (p : ℕ) (C : Complex K) where
  -- ---- the homology of a complex

  abbrev pub IsChainOf : ℕ → Terms K → Type 0
  IsChainOf n c = Each (C.generator n) c

  pub record IsCycleOf (n : ℕ) (z : Terms K) : Type 0 where
    pub chain : IsChainOf n z
    pub closed : SameTerms p C.same (extend C.d z) []

  abbrev pub IsBoundaryOf : ℕ → Terms K → Type 0
  IsBoundaryOf n z = (w : Terms K) × IsChainOf (suc n) w × SameTerms p C.same z (extend C.d w)

  -- z minus the combination is a boundary
  pub record IsExpressedOf (n : ℕ) (zs : List (Terms K)) (z : Terms K) (coefficients : List ℕ) : Type 0 where
    pub as_long : length coefficients ≡ length zs
    pub reduced : All (λ a. a < p) coefficients
    pub rest : IsBoundaryOf n (z ++ scale (p - 1) (combination coefficients zs))

  -- each of zs is a cycle, and each cycle has exactly one list of coefficients
  pub record HomologyListOf (n : ℕ) (zs : List (Terms K)) : Type 0 where
    pub cycles : All (IsCycleOf n) zs
    pub spans : (z : Terms K) → IsCycleOf n z → (coefficients : List ℕ) × IsExpressedOf n zs z coefficients
    pub once : (z : Terms K) (a b : List ℕ) → IsCycleOf n z → IsExpressedOf n zs z a → IsExpressedOf n zs z b → a ≡ b

  -- ---- finite bases

  -- the list has each generator of the degree, up to equal ones exactly once
  pub record IsBase (n : ℕ) (ys : List K) : Type 0 where
    pub inside : All (C.generator n) ys
    pub apart : AllPairs (λ x y. C.same x y ≡ false) ys
    pub every : (y : K) → C.generator n y → list_any (C.same y) ys ≡ true

  -- the test finds the vectors over a base whose differential is 0
  abbrev pub IsCycleTest : List K → (Vector → Bool) → Type 0
  IsCycleTest ys test = (v : Vector) → IsVector p (length ys) v → (test v ≡ true) ↔ SameTerms p C.same (extend C.d (chain_on ys v)) []

  -- the vectors of the differentials of zs over the generators ys
  abbrev pub d_vectors : List K → List K → List Vector
  d_vectors ys zs = map (λ z. numbers_at p C.same ys (C.d z)) zs

  -- whether a vector over a base ys is that of a boundary, for a base zs of one degree more
  abbrev pub is_boundary : List K → List K → Vector → Bool
  is_boundary ys zs = in_span p (length ys) (d_vectors ys zs)

  -- a basis of the vectors that the test finds, up to those of boundaries
  abbrev pub homology_vectors : List K → List K → (Vector → Bool) → List Vector
  homology_vectors ys zs test = complement p (length ys) test (is_boundary ys zs)

  -- ---- ranks

  -- a list of generators, no two equal, with each key of the differentials of ys
  pub record HasKeys (us ys : List K) : Type 0 where
    pub apart : AllPairs (λ x y. C.same x y ≡ false) us
    pub keys : All (λ y. Each (λ k. list_any (C.same k) us ≡ true) (C.d y)) ys

  -- the rank of the differential on ys, as a matrix with a column for each of us
  abbrev pub d_rank : List K → List K → ℕ
  d_rank us ys = rank p (length us) (d_vectors us ys)

  -- ---- a small cycle in its parts

  -- The vector of u over ys is a combination of the homology vectors plus one of the boundaries of zs that uses no boundary that is a
  -- combination of earlier ones.
  pub record IsWritten (ys zs : List K) (test : Vector → Bool) (u : Terms K) (coefficients numbers : Vector) : Type 0 where
    pub coefficients_in : IsVector p (length (homology_vectors ys zs test)) coefficients
    pub numbers_in : IsVector p (length zs) numbers
    pub thrifty : IsThrifty p (length ys) (d_vectors ys zs) numbers
    pub sum_is : vector_plus p (combined p (length ys) coefficients (homology_vectors ys zs test)) (combined p (length ys) numbers (d_vectors ys zs)) ≡ numbers_at p C.same ys u
