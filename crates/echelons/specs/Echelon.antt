-- Reduced echelon bases over F_p (linear algebra, any text; Kenzo has no chapter on them).
--
-- A vector of F_p^w is a list of w numbers below p, and a subspace is given by its membership test. The leading place of a vector
-- is that of its first entry other than 0. The reduced echelon basis of a subspace is the list of its vectors whose leading entry is
-- 1 and that are 0 at the leading places of its vectors other than their own, in the order of leading places. No row operation is
-- named: the definition goes through all vectors, so it is no program for large w. `IsReducedEchelon` and `Spans` say the same of a
-- list of rows, with no list of all vectors.
--
--   over F_3, in the plane, the span of (2,1) has the basis (1,2), and its complement the basis (0,1)
use Rattle.std.specs.Prelude.{◌≡◌, ◌<◌, ◌↔◌, ℕ, zero, suc, ◌+◌, ◌*◌, ◌-◌, ◌%◌, Bool, true, not, ◌&&◌, ◌||◌, ◌==◌, nat_eq, List, [], ◌∷◌, ◌++◌, map, length, get_or}
use Rattle.std.specs.List.{All, AllPairs, filter, list_all, list_any}
use Rattle.std.specs.Cmp.Lexicographic.{pointwise}

-- ---- vectors

abbrev pub Vector : Type 0
Vector = List ℕ

pub record IsVector (p w : ℕ) (v : Vector) : Type 0 where
  pub wide : length v ≡ w
  pub below : All (λ a. a < p) v

abbrev pub at_place : Vector → ℕ → ℕ
at_place v j = get_or v j 0

abbrev pub zeros : ℕ → Vector
zeros zero = []
zeros (suc w) = 0 ∷ zeros w

abbrev pub vector_plus : ℕ → Vector → Vector → Vector
vector_plus p [] v = []
vector_plus p (a ∷ u) [] = []
vector_plus p (a ∷ u) (b ∷ v) = ((a + b) % p) ∷ vector_plus p u v

abbrev pub multiple : ℕ → ℕ → Vector → Vector
multiple p a v = map (λ b. (a * b) % p) v

-- the sum of vectors of width w, each times its coefficient
abbrev pub combined : ℕ → ℕ → List ℕ → List Vector → Vector
combined p w [] vs = zeros w
combined p w (a ∷ as') [] = zeros w
combined p w (a ∷ as') (v ∷ vs) = vector_plus p (multiple p a v) (combined p w as' vs)

-- the sum of the products of the entries of two vectors
abbrev pub dot : ℕ → Vector → Vector → ℕ
dot p [] v = 0
dot p (a ∷ u) [] = 0
dot p (a ∷ u) (b ∷ v) = (a * b + dot p u v) % p

-- ---- all vectors

-- each number below n before each vector, the largest number first
abbrev pub fronted : ℕ → List Vector → List Vector
fronted zero vs = []
fronted (suc n) vs = map (λ v. n ∷ v) vs ++ fronted n vs

-- all vectors of width w, the largest first
abbrev pub vectors : ℕ → ℕ → List Vector
vectors p zero = [] ∷ []
vectors p (suc w) = fronted p (vectors p w)

-- the numbers below n, the largest first
abbrev pub downwards : ℕ → List ℕ
downwards zero = []
downwards (suc n) = n ∷ downwards n

-- ---- the reduced echelon basis

-- the place of the first entry that is not 0, and of a zero vector its width
abbrev pub lead : Vector → ℕ
lead [] = 0
lead (zero ∷ v) = suc (lead v)
lead (suc a ∷ v) = 0

module _ (p w : ℕ) where
  -- in the span of some vectors
  abbrev pub in_span : List Vector → Vector → Bool
  in_span vs v = list_any (λ coefficients. pointwise nat_eq (combined p w coefficients vs) v) (vectors p (length vs))

  -- whether a place below w is the leading place of a vector of the subspace
  abbrev pub is_lead : (Vector → Bool) → ℕ → Bool
  is_lead within j = list_any (λ v. within v && (lead v == j)) (vectors p w)

  -- 0 at each leading place of the subspace
  abbrev pub is_clear : (Vector → Bool) → Vector → Bool
  is_clear within v = list_all (λ j. not (is_lead within j) || (at_place v j == 0)) (downwards w)

  -- the leading entry is 1, and the vector is 0 at the other leading places of the subspace
  abbrev pub is_reduced : (Vector → Bool) → Vector → Bool
  is_reduced within v =
      (at_place v (lead v) == 1) && list_all (λ j. (j == lead v) || (not (is_lead within j) || (at_place v j == 0))) (downwards w)

  abbrev pub reduced_basis : (Vector → Bool) → List Vector
  reduced_basis within = filter (λ v. within v && is_reduced within v) (vectors p w)

  -- for a subspace `part` of `whole`: the basis of the vectors of `whole` that are 0 at the leading places of `part`
  abbrev pub complement : (Vector → Bool) → (Vector → Bool) → List Vector
  complement whole part = reduced_basis (λ v. whole v && is_clear part v)

-- in the kernel of the linear map that takes the unit vectors to these images, of a width: v_1 i_1 + .. + v_n i_n = 0
abbrev pub in_kernel : ℕ → ℕ → List Vector → Vector → Bool
in_kernel p width images v = pointwise nat_eq (combined p width v images) (zeros width)

-- m v = 0, for the matrix m of these rows
abbrev pub in_null_space : ℕ → List Vector → Vector → Bool
in_null_space p rows v = list_all (λ r. dot p r v == 0) rows

-- ---- the same of a list of rows

pub record IsSubspace (p w : ℕ) (within : Vector → Bool) : Type 0 where
  pub zero_in : within (zeros w) ≡ true
  pub plus_in : (u v : Vector) → IsVector p w u → IsVector p w v → within u ≡ true → within v ≡ true → within (vector_plus p u v) ≡ true
  pub multiple_in : (a : ℕ) (v : Vector) → a < p → IsVector p w v → within v ≡ true → within (multiple p a v) ≡ true

-- the leading entries are 1, the leading places rise, and each row is 0 at the leading places of the others
pub record IsReducedEchelon (p w : ℕ) (rows : List Vector) : Type 0 where
  pub vectors_all : All (IsVector p w) rows
  pub leads_one : All (λ r. at_place r (lead r) ≡ 1) rows
  pub leads_rise : AllPairs (λ r s. lead r < lead s) rows
  pub clear_after : AllPairs (λ r s. at_place r (lead s) ≡ 0) rows
  pub clear_before : AllPairs (λ r s. at_place s (lead r) ≡ 0) rows

-- v is a sum of the rows, each times a coefficient
abbrev pub IsCombination : ℕ → ℕ → List Vector → Vector → Type 0
IsCombination p w rows v = (coefficients : Vector) × IsVector p (length rows) coefficients × (combined p w coefficients rows ≡ v)

-- the subspace is the span of the rows
abbrev pub Spans : ℕ → ℕ → List Vector → (Vector → Bool) → Type 0
Spans p w rows within = (v : Vector) → IsVector p w v → (within v ≡ true) ↔ IsCombination p w rows v

-- the entries of v at the leading places of the rows
abbrev pub coordinates : List Vector → Vector → Vector
coordinates rows v = map (λ r. at_place v (lead r)) rows

-- v minus the combination of the rows with these coefficients
abbrev pub remainder : ℕ → ℕ → List Vector → Vector → Vector
remainder p w rows v = vector_plus p v (multiple p (p - 1) (combined p w (coordinates rows v) rows))

-- v is the sum of a combination of the rows and a vector of the subspace
pub record IsSplit (p w : ℕ) (rows : List Vector) (part : Vector → Bool) (v coefficients rest : Vector) : Type 0 where
  pub coefficients_in : IsVector p (length rows) coefficients
  pub rest_in : IsVector p w rest
  pub rest_within : part rest ≡ true
  pub sum_is : vector_plus p (combined p w coefficients rows) rest ≡ v

-- in exactly one way
abbrev pub IsSplitOnce : ℕ → ℕ → List Vector → (Vector → Bool) → Vector → Type 0
IsSplitOnce p w rows part v =
    (coefficients : Vector) × (rest : Vector) × IsSplit p w rows part v coefficients rest
    × ((others last : Vector) → IsSplit p w rows part v others last → (others ≡ coefficients) × (last ≡ rest))
