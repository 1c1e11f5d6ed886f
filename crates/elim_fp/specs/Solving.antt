-- The coefficients of a row over a reduced echelon basis, and why there are none (linear algebra, any text).
--
--   over 3 the basis (1,2) gives (2,1) the coefficients (2), and (0,1) is not in the span, by place 1
use Rattle.std.specs.Prelude.{◌≡◌, ℕ, ◌<◌, length}
use Rattle.fp_field.specs.Field.{number}
use Rattle.echelons.specs.Echelon.{Vector, IsVector, combined, lead, remainder, coordinates, IsCombination}
use Rattle.elim_fp.specs.Rows.{DenseRow, DenseRows}
use Rattle.elim_fp.specs.declared.bases.SolveFault.{SolveFault}
use Rattle.elim_fp.specs.declared.bases.SolveFault.TheVariants.{NotIn, Memory}

-- the vector is in the span, and the row has its coefficients
pub record IsSolution (e : DenseRows) (v : Vector) (r : DenseRow) : Type 0 where
  pub prime_is : r.prime ≡ e.prime
  pub vector : IsVector (number e.prime) (length e.rows) r.values
  pub sum_is : combined (number e.prime) e.width r.values e.rows ≡ v
  pub coordinates_are : r.values ≡ coordinates e.rows v

-- the vector is not in the span, and the first place that is not 0 after reduction
pub record IsOutside (e : DenseRows) (v : Vector) (place : ℕ) : Type 0 where
  pub outside : IsCombination (number e.prime) e.width e.rows v → ⊥
  pub within : place < e.width
  pub place_is : place ≡ lead (remainder (number e.prime) e.width e.rows v)

abbrev pub IsFault : DenseRows → Vector → SolveFault → Type 0
IsFault e v (NotIn place) = IsOutside e v place
IsFault e v Memory = Unit {0}
