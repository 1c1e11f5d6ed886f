-- Rows and matrices as contracts see them (linear algebra, any text). A row is a prime and the list of its numbers, one at each
-- place of its width; that the program keeps only the numbers that are not 0 is not seen.
--
--   over 3 the terms (0, 1) and (2, 2) are at width 4 the row (1,0,2,0)
use Rattle.std.specs.Prelude.{◌≡◌, ℕ, zero, suc, ◌%◌, List, [], ◌∷◌, map, drop, cond, nat_lt}
use Rattle.std.specs.Ordering.{nat_cmp, eq_by_cmp}
use Rattle.fp_field.specs.declared.prime.Prime.{Prime}
use Rattle.fp_field.specs.declared.element.Fp.{Fp}
use Rattle.fp_field.specs.Field.{number}
use Rattle.fp_field.specs.Chains.{Terms, coeff}
use Rattle.echelons.specs.Echelon.{Vector, IsVector, zeros, lead}

-- a row
pub record DenseRow : Type 0 where
  pub prime : Prime
  pub values : Vector

-- rows of one prime and one width
pub record DenseRows : Type 0 where
  pub prime : Prime
  pub width : ℕ
  pub rows : List Vector

-- the numbers of a chain at the n places from i on
abbrev pub entries_from : ℕ → ℕ → ℕ → Terms ℕ → Vector
entries_from p i zero c = []
entries_from p i (suc n) c = (coeff (eq_by_cmp nat_cmp) c i % p) ∷ entries_from p (suc i) n c

-- the vector of width w of a chain whose keys are places
abbrev pub dense : ℕ → ℕ → Terms ℕ → Vector
dense p w c = entries_from p 0 w c

-- the numbers of a list of elements
abbrev pub numbers_of : List Fp → Vector
numbers_of values = map (λ a. a.value) values

-- a row over a prime, of a width
pub record IsRow (p : Prime) (w : ℕ) (r : DenseRow) : Type 0 where
  pub prime_is : r.prime ≡ p
  pub vector : IsVector (number p) w r.values

-- the vectors of rows
abbrev pub vectors_of : List DenseRow → List Vector
vectors_of rows = map (λ r. r.values) rows

-- the vector of a width with 1 at a place and 0 at the others
abbrev pub unit : ℕ → ℕ → Vector
unit i zero = []
unit zero (suc w) = 1 ∷ zeros w
unit (suc i) (suc w) = 0 ∷ unit i w

-- the parts from place h on of the vectors that are 0 before it
abbrev pub tails : ℕ → List Vector → List Vector
tails h [] = []
tails h (r ∷ rows) = cond (nat_lt (lead r) h) (tails h rows) (drop h r ∷ tails h rows)
