-- A table of rows by leading place (Gauss and Jordan, any text on linear algebra): at each place stands the row that leads there with 1,
-- or a zero row where there is none. So the row that leads at a place is found without a search.
--
--   over 3 and in width 2 the zero row and (0,1) are a table, of the span of (0,1)
use Rattle.std.specs.Prelude.{◌≡◌, ℕ, suc, ◌<◌, ◌⊎◌, All, List, [], ◌∷◌, length, cond, nat_lt}
use Rattle.fp_field.specs.declared.prime.Prime.{Prime}
use Rattle.fp_field.specs.Field.{number}
use Rattle.echelons.specs.Echelon.{Vector, IsVector, at_place, zeros, lead}
use Rattle.elim_fp.specs.Rows.{DenseRow, vectors_of}

-- a vector that is 0 before a place and has 1 there, or that is 0
pub record IsPlaced (p w k : ℕ) (t : Vector) : Type 0 where
  pub vector : IsVector p w t
  pub before : (i : ℕ) → i < k → at_place t i ≡ 0
  pub one_or_none : (at_place t k ≡ 1) ⊎ (t ≡ zeros w)

-- each vector of a list, at its place in it, the first one at place k
abbrev pub Placed : ℕ → ℕ → ℕ → List Vector → Type 0
Placed p w k [] = Unit {0}
Placed p w k (t ∷ ts) = IsPlaced p w k t × Placed p w (suc k) ts

-- a table of rows over a prime, of a width
pub record IsTable (p : Prime) (w : ℕ) (rows : List DenseRow) : Type 0 where
  pub count : length rows ≡ w
  pub primes : All (λ r. r.prime ≡ p) rows
  pub placed : Placed (number p) w 0 (vectors_of rows)

-- the vectors of width w of a list that are not 0
abbrev pub nonzero : ℕ → List Vector → List Vector
nonzero w [] = []
nonzero w (t ∷ ts) = cond (nat_lt (lead t) w) (t ∷ nonzero w ts) (nonzero w ts)

-- the rows of a list that lead before a width
abbrev pub leading_rows : ℕ → List DenseRow → List DenseRow
leading_rows w [] = []
leading_rows w (r ∷ rows) = cond (nat_lt (lead r.values) w) (r ∷ leading_rows w rows) (leading_rows w rows)
