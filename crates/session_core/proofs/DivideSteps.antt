-- A chain of the small complex in its parts: widths of the rows on the way.
use Rattle.std.proofs.Common.{◌≡◌, ℕ, All, List, [], ◌∷◌, ◌++◌, map, length, refl, ap}
use Rattle.std.specs.List.{AllByRecursion as Each}
use Rattle.std.proofs.lemmas.List.Elements.{All-from_recursion, recursion_from_All}
use Rattle.std.specs.declared.cmp.Ordering.{Ordering}
use Rattle.fp_field.specs.declared.prime.Prime.{Prime}
use Rattle.fp_field.specs.Field.{number}
use Rattle.fp_field.specs.Chains.{Terms}
use Rattle.fp_field.proofs.Primes.{number_pos}
use Rattle.fp_field.proofs.FieldLaws.{is_field}
use Rattle.echelons.specs.Echelon.{IsVector, in_span, reduced_basis, remainder, IsReducedEchelon}
use Rattle.echelons.proofs.Vectors.{Wide}
use Rattle.echelons.proofs.Spans.{span-subspace}
use Rattle.echelons.proofs.Basis.{basis-echelon}
use Rattle.echelons.proofs.Rows.{Stairs-from, remainder-vector}
use Rattle.elim_fp.specs.Rows.{DenseRow, vectors_of, IsRow}
use Rattle.homology_rules.specs.CycleVectors.{coordinates_over}
use Rattle.homology_rules.proofs.RowSteps.{coordinates-vector}

pub nothing-more : {A : Type 0} (xs : List A) → xs ++ [] ≡ xs
nothing-more [] = refl
nothing-more (x ∷ xs) = ap (λ ys. x ∷ ys) (nothing-more xs)

-- rows of a reduced echelon list
pub rows-of : (q : Prime) (w : ℕ) (rows : List DenseRow) → IsReducedEchelon (number q) w (vectors_of rows) → All (λ r. r.prime ≡ q) rows → All (IsRow q w) rows
rows-of q w rows h g = All-from_recursion (IsRow q w) rows (by rows (recursion_from_All (IsVector (number q) w) (vectors_of rows) h.vectors_all) (recursion_from_All (λ r. r.prime ≡ q) rows g))
  where
    by : (rs : List DenseRow) → Each (IsVector (number q) w) (vectors_of rs) → Each (λ r. r.prime ≡ q) rs → Each (IsRow q w) rs
    by [] a b = tt
    by (r ∷ rs) a b = (record { prime_is = b.0; vector = a.0 }, by rs a.1 b.1)

module _ {K : Type 0} (cmp : K → K → Ordering) (q : Prime) (ys : List K) where
  wide-coordinates : (es : List (Terms K)) → Wide (length ys) (map (λ d. coordinates_over cmp (number q) ys d) es)
  wide-coordinates [] = tt
  wide-coordinates (e ∷ es) = ((coordinates-vector cmp (number q) (number_pos q) ys e).wide, wide-coordinates es)

  -- what is left of a chain over the boundaries
  pub left-wide : (es : List (Terms K)) (c : Terms K)
      → length (remainder (number q) (length ys) (reduced_basis (number q) (length ys) (in_span (number q) (length ys) (map (λ d. coordinates_over cmp (number q) ys d) es))) (coordinates_over cmp (number q) ys c)) ≡ length ys
  left-wide es c =
      (remainder-vector (number q) (length ys) (number_pos q) (reduced_basis (number q) (length ys) (in_span (number q) (length ys) (map (λ d. coordinates_over cmp (number q) ys d) es)))
      (coordinates_over cmp (number q) ys c)
      (Stairs-from (number q) (length ys) (reduced_basis (number q) (length ys) (in_span (number q) (length ys) (map (λ d. coordinates_over cmp (number q) ys d) es)))
      (basis-echelon (number q) (length ys) (is_field q) (in_span (number q) (length ys) (map (λ d. coordinates_over cmp (number q) ys d) es))
      (span-subspace (number q) (length ys) (number_pos q) (map (λ d. coordinates_over cmp (number q) ys d) es) (wide-coordinates es))))
      (coordinates-vector cmp (number q) (number_pos q) ys c)).wide
