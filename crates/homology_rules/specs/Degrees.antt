-- What the cycles of a degree ask for, as keys, and what comes of them.
--
-- The small cells of the degree and their small differentials, those one degree higher, and then G at the cells of the vectors of cycles,
-- one vector after the other. What each key comes to is determined, so the list of keys and the chains are.
--
--   of the sphere of dimension 2 in degree 2: the small cells of degree 2, the small differential of its cell, the small cells of degree 3,
--   of which there are none, and G of the cell of dimension 2
use Rattle.std.specs.Prelude.{◌≡◌, ℕ, ◌+◌, List, [], ◌∷◌, ◌++◌, map, None, Some}
use Rattle.fp_field.specs.Field.{number}
use Rattle.fp_field.specs.Chains.{Terms}
use Rattle.echelons.specs.Echelon.{Vector}
use Rattle.chain_core.specs.Formal.{Formal}
use Rattle.cells.specs.declared.cells.Cell.{Cell}
use Rattle.cells.specs.declared.cells.SmallCell.{SmallCell}
use Rattle.cells.specs.Small.{small_cmp}
use Rattle.oracle_iface.specs.declared.keys.Key.{Key}
use Rattle.oracle_iface.specs.declared.keys.Op.TheVariants.{Basis, SmallD}
use Rattle.oracle_iface.specs.declared.keys.Place.TheVariants.{Degree}
use Rattle.oracle_iface.specs.declared.bodies.Body.TheVariants.{Cells, Small, Big, Many}
use Rattle.oracle_iface.specs.declared.bodies.Outcome.{Outcome}
use Rattle.oracle_iface.specs.declared.bodies.Outcome.TheVariants.{Value, Over as IsOver}
use Rattle.oracle_iface.specs.declared.cell_values.CellValue.{CellValue}
use Rattle.oracle_iface.specs.Forcing.{Calls, Asked}
use Rattle.homology_rules.specs.Asking.{outcome_of, first_refusal}
use Rattle.homology_rules.specs.Held.{small_in}
use Rattle.homology_rules.specs.SmallKeys.{small_key_of}
use Rattle.homology_rules.specs.CycleVectors.{cycle_vectors_over}
use Rattle.homology_rules.specs.Vectors.{keys_of_vectors, carried_of}
use Rattle.homology_rules.specs.declared.degrees.DegreeAnswers.{DegreeAnswers}
use Rattle.homology_rules.specs.declared.degrees.DegreeAnswers.TheVariants.{Found, Over as NotFound}

-- a list of small cells
abbrev pub HasCells : Outcome → Type 0
HasCells (Value (Cells l)) = Unit {0}
HasCells (Value (Small c)) = ⊥
HasCells (Value (Big c)) = ⊥
HasCells (Value (Many l)) = ⊥
HasCells (IsOver w) = ⊥

abbrev pub cells_held : Outcome → List SmallCell
cells_held (Value (Cells l)) = l
cells_held (Value (Small c)) = []
cells_held (Value (Big c)) = []
cells_held (Value (Many l)) = []
cells_held (IsOver w) = []

-- the key of the small cells of a degree, of the space of a key and over its field
abbrev pub degree_key_of : Key → ℕ → Key
degree_key_of k n = record { op = Basis; prime = k.prime; place = Degree n; term = k.term }

module _ (k : Key) where
  abbrev pub cells_at : ℕ → List SmallCell
  cells_at n = cells_held (outcome_of (degree_key_of k n))

  -- the small differentials of small cells
  abbrev pub chains_at : List SmallCell → List (Terms SmallCell)
  chains_at ys = map (λ y. (small_in (outcome_of (small_key_of k SmallD y))).terms) ys

  abbrev pub vectors_at : ℕ → List Vector
  vectors_at n = cycle_vectors_over small_cmp (number k.prime) (cells_at n) (chains_at (cells_at n)) (chains_at (cells_at (n + 1)))

  -- the small cells of a degree, and their small differentials
  abbrev pub keys_of_degree : ℕ → List Key
  keys_of_degree n = degree_key_of k n ∷ map (λ y. small_key_of k SmallD y) (cells_at n)

  -- all keys that the cycles of a degree ask for
  abbrev pub keys_of_cycles : ℕ → List Key
  keys_of_cycles n = keys_of_degree n ++ (keys_of_degree (n + 1) ++ keys_of_vectors k (cells_at n) (vectors_at n))

  -- the cycles
  abbrev pub chains_of_cycles : ℕ → List (Formal Cell)
  chains_of_cycles n = map (λ v. carried_of k (cells_at n) v) (vectors_at n)

-- the cells of the table of a degree
pub record IsDegree {F : Type 0} (calls : Calls F) (k : Key) (n : ℕ) (s t : F) (cells : CellValue) (chains : List CellValue) : Type 0 where
  pub none_refused : first_refusal (keys_of_degree k n) ≡ None
  pub cells_are : cells.key ≡ degree_key_of k n
  pub chains_are : map (λ v. v.key) chains ≡ map (λ y. small_key_of k SmallD y) (cells_at k n)
  pub asked : Asked calls s (keys_of_degree k n) t

-- what comes of the keys of a degree
abbrev pub IsDegreeAnswer : {F : Type 0} → Calls F → Key → ℕ → F → F → DegreeAnswers → Type 0
IsDegreeAnswer calls k n s t (Found cells chains) = IsDegree calls k n s t cells chains.items
IsDegreeAnswer calls k n s t (NotFound w) = first_refusal (keys_of_degree k n) ≡ Some w

-- what comes of the cycles of a degree: the cycles, where no key is refused, and all are asked for, or the first refusal
abbrev pub IsCyclesAnswer : {F : Type 0} → Calls F → Key → ℕ → F → F → Outcome → Type 0
IsCyclesAnswer calls k n s t (Value b) = (first_refusal (keys_of_cycles k n) ≡ None) × (b ≡ Many (chains_of_cycles k n)) × Asked calls s (keys_of_cycles k n) t
IsCyclesAnswer calls k n s t (IsOver w) = first_refusal (keys_of_cycles k n) ≡ Some w
