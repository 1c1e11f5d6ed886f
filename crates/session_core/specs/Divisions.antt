-- The parts of a vector over cells: its coefficients over the vectors of cycles, after boundaries are taken away, and the numbers of a chain
-- of cells of one degree more whose differential is the rest (Rubio and Sergeraert, Constructive Homological Algebra and Applications,
-- on homology with generators).
--
--   over 3, with the cycle (0,1), the boundary (1,1) and the vector (2,1): 2 times the boundary is taken away and (0,2) is left, so the
--   coefficient is 2; and (2,1) less 2 times (0,1) is (2,2), which is 2 times the boundary, so the filling is (2)
use Rattle.std.specs.Prelude.{ℕ, ◌-◌, List, map, length}
use Rattle.std.specs.declared.cmp.Ordering.{Ordering}
use Rattle.fp_field.specs.Chains.{Terms}
use Rattle.echelons.specs.Echelon.{Vector, vector_plus, multiple, combined, in_span, reduced_basis, coordinates, remainder}
use Rattle.spaces.specs.Spaces.{Space}
use Rattle.homology_rules.specs.CycleVectors.{coordinates_over, cycle_vectors_over}
use Rattle.session_core.specs.Questions.{thrifty_numbers}

-- a vector less a combination of others
abbrev pub less_combined : ℕ → ℕ → Vector → List ℕ → List Vector → Vector
less_combined p w u cs vs = vector_plus p u (multiple p (p - 1) (combined p w cs vs))

module _ {K : Type 0} (cmp : K → K → Ordering) (p : ℕ) (ys : List K) (ds es : List (Terms K)) where
  abbrev pub boundaries_over : List Vector
  boundaries_over = map (λ d. coordinates_over cmp p ys d) es

  abbrev pub class_over : Vector → Vector
  class_over u = coordinates (cycle_vectors_over cmp p ys ds es) (remainder p (length ys) (reduced_basis p (length ys) (in_span p (length ys) boundaries_over)) u)

  abbrev pub filling_over : Space → Vector → Vector
  filling_over a u = thrifty_numbers p a (length ys) boundaries_over (less_combined p (length ys) u (class_over u) (cycle_vectors_over cmp p ys ds es))
