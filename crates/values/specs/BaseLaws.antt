-- The small cells of each space in closed form, and what cycles need (Rubio and Sergeraert, Constructive Homological Algebra and
-- Applications, chapters 2 and 3; Adams's cobar construction for loop groups).
--
-- The rows of a table; pairs; the base of a suspension and the small cells of positive degree of its part; the empty list and the list
-- of the one number 1; words of small cells of degree 2 or more; the critical lists.
--
--   the words [S2] and [S2|S2] are small cells of the loop group of the 2-sphere, of degrees 1 and 2; [*] is none
use Rattle.std.specs.Prelude.{◌≡◌, ℕ, suc, ◌<◌, ◌≤◌, List, [], ◌∷◌, ◌++◌, length, map, Some, None, ℤ, pos, ◌⊎◌, Contains}
use Rattle.fp_field.specs.Chains.{Terms, extend}
use Rattle.fp_field.specs.Normal.{normal}
use Rattle.echelons.specs.Echelon.{Vector}
use Rattle.spaces.specs.Spaces.{Space, table, sphere, product, suspension, kz1, bundle, loops, paths, kzm1, cyclic_bundle}
use Rattle.spaces.specs.Orders.{ordered, by_degree}
use Rattle.spaces.specs.SmallCells.{Small, small_degree}
use Rattle.values.specs.Asks.{Ask, Cell, basis, small_d, g}
use Rattle.values.specs.CyclicFlow.{cyclic_cell}
use Rattle.values.specs.Cycles.{cycle_vectors, terms_of}
use Rattle.values.specs.Rules.{joined}
use Rattle.values.specs.Values.{value, needs, depth_of}
use Rattle.values.specs.Ranks.{IsValid, IsLower}

-- each letter is such a cell, of degree 2 or more
abbrev pub IsWordOf : {S : Type 0} → (S → Type 0) → (S → ℕ) → List S → Type 0
IsWordOf Is degree [] = Unit {0}
IsWordOf Is degree (x ∷ w) = Is x × (2 ≤ degree x) × IsWordOf Is degree w

abbrev pub IsIntegersCell : List ℤ → Type 0
IsIntegersCell y = (y ≡ []) ⊎ (y ≡ pos 1 ∷ [])

abbrev pub IsCyclicCell : ℕ → List ℕ → Type 0
IsCyclicCell m y = y ≡ cyclic_cell m (length y)

abbrev pub IsSmall : (a : Space) → Small a → Type 0
IsSmall (table t) y = y < length t
IsSmall (sphere m) y = y < 2
IsSmall (product a b) y = IsSmall a y.0 × IsSmall b y.1
IsSmall (suspension a) None = Unit {0}
IsSmall (suspension a) (Some y) = IsSmall a y × (0 < small_degree a y)
IsSmall kz1 y = IsIntegersCell y
IsSmall (bundle t c) y = (y.0 < length t) × IsIntegersCell y.1
IsSmall (loops a) w = IsWordOf (IsSmall a) (small_degree a) w
IsSmall (paths a) y = IsSmall a y.0 × IsWordOf (IsSmall a) (small_degree a) y.1
IsSmall (kzm1 m) y = IsCyclicCell m y
IsSmall (cyclic_bundle t m c) y = (y.0 < length t) × IsCyclicCell m y.1

-- ---- cycles

module _ (p : ℕ) (a : Space) (n : ℕ) where
  -- the vectors, over the small cells of degree n, of the cycles of degree n
  abbrev pub vectors_of_cycles : List Vector
  vectors_of_cycles =
      cycle_vectors p a (value p (basis a n)) (map (λ y. value p (small_d a y)) (value p (basis a n)))
      (map (λ z. value p (small_d a z)) (value p (basis a (suc n))))

  -- the small cells of a vector, where it is not 0
  abbrev pub cells_of : Vector → Terms (Small a)
  cells_of v = terms_of p a (value p (basis a n)) v

  -- G of each vector, in normal form
  abbrev pub carried_cycles : List (Terms (Cell a))
  carried_cycles = map (λ v. normal (by_degree (ordered a).cmp) p (extend (λ y. value p (g a y)) (cells_of v))) vectors_of_cycles

  -- the small cells of degree n and their small differentials, then those of degree n + 1, then G at the cells of each vector
  abbrev pub needs_of_cycles : List Ask
  needs_of_cycles =
      basis a n
      ∷ (map (λ y. small_d a y) (value p (basis a n))
      ++ (basis a (suc n)
      ∷ (map (λ z. small_d a z) (value p (basis a (suc n))) ++ joined (map (λ v. map (λ t. g a t.0) (cells_of v)) vectors_of_cycles))))

  -- a fact of the questions that cycles of degree n ask about single small cells
  abbrev pub AtCells : (Ask → Type 0) → Type 0
  AtCells P =
      ((y : Small a) → Contains (value p (basis a n)) y → P (small_d a y) × P (g a y))
      × ((z : Small a) → Contains (value p (basis a (suc n))) z → P (small_d a z))

-- ---- what is needed is below

module _ (p : ℕ) where
  -- valid, of lower rank and of less depth
  abbrev pub IsBelow : Ask → Ask → Type 0
  IsBelow j k = IsValid p j × IsLower p j k × (depth_of j < depth_of k)

  abbrev pub NeedsAreBelow : Ask → Type 0
  NeedsAreBelow k = (j : Ask) → Contains (needs p k) j → IsBelow j k

-- ---- spaces that are easily answered

-- the spaces that have no parts
abbrev pub HasNoParts : Space → Type 0
HasNoParts (table t) = Unit {0}
HasNoParts (sphere m) = Unit {0}
HasNoParts (product a b) = ⊥
HasNoParts (suspension a) = ⊥
HasNoParts kz1 = Unit {0}
HasNoParts (bundle t c) = ⊥
HasNoParts (loops a) = ⊥
HasNoParts (paths a) = ⊥
HasNoParts (kzm1 m) = Unit {0}
HasNoParts (cyclic_bundle t m c) = ⊥

-- a suspension, of whatever part
abbrev pub IsSuspension : Space → Type 0
IsSuspension (table t) = ⊥
IsSuspension (sphere m) = ⊥
IsSuspension (product a b) = ⊥
IsSuspension (suspension a) = Unit {0}
IsSuspension kz1 = ⊥
IsSuspension (bundle t c) = ⊥
IsSuspension (loops a) = ⊥
IsSuspension (paths a) = ⊥
IsSuspension (kzm1 m) = ⊥
IsSuspension (cyclic_bundle t m c) = ⊥

-- such a space without parts, suspended any number of times
abbrev pub IsSimple : Space → Type 0
IsSimple (table t) = Unit {0}
IsSimple (sphere m) = Unit {0}
IsSimple (product a b) = ⊥
IsSimple (suspension a) = IsSimple a
IsSimple kz1 = Unit {0}
IsSimple (bundle t c) = ⊥
IsSimple (loops a) = ⊥
IsSimple (paths a) = ⊥
IsSimple (kzm1 m) = Unit {0}
IsSimple (cyclic_bundle t m c) = ⊥
