-- The dimensions of the homology of a space, as keys ask for them: degree by degree the nullity of the small differential, less the rank of
-- that of the next degree (any text on homology).
--
--   over F_2 the projective plane has one small cell in each of the degrees 0, 1, 2 and small differentials 0, so each dimension is 1 - 0
use Rattle.std.specs.Prelude.{ℕ, zero, suc, ◌+◌, ◌-◌, List, [], ◌∷◌, ◌++◌, map, length}
use Rattle.std.specs.declared.cmp.Ordering.{Ordering}
use Rattle.fp_field.specs.declared.prime.Prime.{Prime}
use Rattle.fp_field.specs.Field.{number}
use Rattle.fp_field.specs.Chains.{Terms}
use Rattle.echelons.specs.Echelon.{in_span, reduced_basis}
use Rattle.cells.specs.Small.{small_cmp}
use Rattle.term_lang.specs.declared.terms.Term.{Term}
use Rattle.oracle_iface.specs.declared.keys.Key.{Key}
use Rattle.oracle_iface.specs.declared.keys.Op.TheVariants.{Basis}
use Rattle.oracle_iface.specs.declared.keys.Place.TheVariants.{Degree}
use Rattle.oracle_iface.specs.Forcing.{Calls}
use Rattle.homology_rules.specs.CycleVectors.{coordinates_over, is_cycle_over}
use Rattle.homology_rules.specs.Degrees.{cells_at, chains_at, keys_of_degree, IsDegree}
use Rattle.session_core.specs.declared.degrees.TwoDegrees.{TwoDegrees}

module _ {K : Type 0} (cmp : K → K → Ordering) (p : ℕ) where
  -- how many vectors a basis has of those over w cells whose differential is 0
  abbrev pub nullity_over : ℕ → List (Terms K) → ℕ
  nullity_over w ds = length (reduced_basis p w (is_cycle_over cmp p ds))

  -- the rank of chains over cells
  abbrev pub rank_over : List K → List (Terms K) → ℕ
  rank_over ys es = length (reduced_basis p (length ys) (in_span p (length ys) (map (λ d. coordinates_over cmp p ys d) es)))

  abbrev pub dimension_over : List K → List (Terms K) → List (Terms K) → ℕ
  dimension_over ys ds es = nullity_over (length ys) ds - rank_over ys es

-- a key of the space of a term over a prime
abbrev pub key_about : Term → Prime → ℕ → Key
key_about t p n = record { op = Basis; prime = p; place = Degree n; term = t }

module _ (k : Key) where
  -- the keys of a degree and of the next one
  abbrev pub keys_of_dimension : ℕ → List Key
  keys_of_dimension n = keys_of_degree k n ++ keys_of_degree k (n + 1)

  abbrev pub dimension_at : ℕ → ℕ
  dimension_at n = dimension_over small_cmp (number k.prime) (cells_at k n) (chains_at k (cells_at k n)) (chains_at k (cells_at k (n + 1)))

  -- those of so many degrees from one on
  abbrev pub keys_of_dimensions : ℕ → ℕ → List Key
  keys_of_dimensions n zero = []
  keys_of_dimensions n (suc m) = keys_of_dimension n ++ keys_of_dimensions (suc n) m

  abbrev pub dimensions_at : ℕ → ℕ → List ℕ
  dimensions_at n zero = []
  dimensions_at n (suc m) = dimension_at n ∷ dimensions_at (suc n) m

-- the cells of the table of a degree and of the next one
pub record AreDegrees {F : Type 0} (calls : Calls F) (k : Key) (n : ℕ) (d : TwoDegrees) : Type 0 where
  pub first : F
  pub middle : F
  pub last : F
  pub low : IsDegree calls k n first middle d.cells d.chains.items
  pub high : IsDegree calls k (n + 1) middle last d.next_cells d.next_chains.items
