-- Keys, terms and small cells of the code, against the questions, spaces and small cells that they stand for.
--
-- A space is named where its term names it again; each space of a term is, and no term names K(Z/m,1). A small cell is proper where its
-- rows, at any depth, are rows of the tables and of the spheres that it is made of, spheres being of dimension 1 or more: the small cells
-- of bases are (Rubio and Sergeraert, Constructive Homological Algebra and Applications, on the small complexes). The degrees of the code
-- stop at 4,294,967,295, and each looping raises the degrees of letters by one.
--
-- A valid key about the rows of a table is at one of them, with its dimension, and one about a sphere at its vertex or its cell.
--
-- What the cycles of degree n need is the small cells of degrees n and n + 1, their small differentials, and G at those of degree n.
--
--   of the sphere of dimension 2 the small cells 0 and 1 are proper, and their values are One(Base) and One(Top(2))
use Rattle.std.specs.Prelude.{◌≡◌, ℕ, suc, ◌+◌, ◌<◌, ◌≤◌, List, length, slice_index_or, Some, None, Contains, ◌⊎◌}
use Rattle.std.specs.List.{AllByRecursion}
use Rattle.fp_field.specs.declared.prime.Prime.{Prime}
use Rattle.spaces.specs.Spaces.{Space, table, sphere, product, suspension, kz1, bundle, loops, paths, kzm1, cyclic_bundle}
use Rattle.spaces.specs.SmallCells.{Small, small_degree, row_dim}
use Rattle.cells.specs.declared.cells.Cell.TheVariants.{Row as RowCell, Base, Top}
use Rattle.cells.specs.declared.cells.SmallCell.TheVariants.{One}
use Rattle.term_lang.specs.declared.tables.Row.{Row}
use Rattle.term_lang.specs.Rows.{rows_of}
use Rattle.term_lang.specs.SpaceOf.{space_of}
use Rattle.term_lang.specs.NormalForms.{HasNormalCells}
use Rattle.values.specs.Asks.{Ask, Cell, basis, small_d, g}
use Rattle.values.specs.Values.{value}
use Rattle.values.specs.Ranks.{loopings, IsCell}
use Rattle.oracle_iface.specs.Terms.{term_of}
use Rattle.oracle_iface.specs.Keys.{question_of, key_of}
use Rattle.oracle_iface.specs.declared.keys.Op.{Op}
use Rattle.oracle_iface.specs.declared.keys.Op.TheVariants.{SmallD, F, G, H}
use Rattle.oracle_iface.specs.declared.keys.Place.{Place}
use Rattle.oracle_iface.specs.declared.keys.Place.TheVariants.{Degree, Small as SmallPlace, Big as BigPlace}

abbrev pub IsNamed : Space → Type 0
IsNamed a = space_of (term_of a) ≡ a

abbrev pub IsProper : (a : Space) → Small a → Type 0
IsProper (table t) y = y < length t
IsProper (sphere m) y = (0 < m) × (y < 2)
IsProper (product a b) y = IsProper a y.0 × IsProper b y.1
IsProper (suspension a) None = Unit {0}
IsProper (suspension a) (Some y) = IsProper a y
IsProper kz1 y = Unit {0}
IsProper (bundle t c) y = y.0 < length t
IsProper (loops a) w = AllByRecursion (IsProper a) w
IsProper (paths a) y = IsProper a y.0 × AllByRecursion (IsProper a) y.1
IsProper (kzm1 m) y = Unit {0}
IsProper (cyclic_bundle t m c) y = y.0 < length t

-- far enough below the greatest degree of the code
abbrev pub IsCounted : (a : Space) → Small a → Type 0
IsCounted a y = small_degree a y + loopings a ≤ 4294967295

-- the cells of the code are those of the space, in the degrees that masks of the code reach
abbrev pub HasCells : Space → Type 0
HasCells a = (n : ℕ) → n ≤ 32 → HasNormalCells a n

-- a cell of a degree that masks of the code reach
abbrev pub IsShown : (a : Space) → Cell a → Type 0
IsShown a x = (x.0 ≤ 32) × IsCell a x.0 x.1

-- the key of the question is read as that question
abbrev pub IsReadBack : Prime → Ask → Type 0
IsReadBack p q = question_of (key_of p q) ≡ q

-- what the cycles of degree n need
pub data CyclesNeed (p : ℕ) (a : Space) (n : ℕ) (q : Ask) : Type 0 where
  cells_in : q ≡ basis a n → CyclesNeed p a n q
  cells_above : q ≡ basis a (suc n) → CyclesNeed p a n q
  differential_in : (y : Small a) → Contains (value p (basis a n)) y → q ≡ small_d a y → CyclesNeed p a n q
  differential_above : (y : Small a) → Contains (value p (basis a (suc n))) y → q ≡ small_d a y → CyclesNeed p a n q
  carried : (y : Small a) → Contains (value p (basis a n)) y → q ≡ g a y → CyclesNeed p a n q

-- ---- the places of valid keys, in the words of the code

-- asked at small cells, and at cells
abbrev pub IsOfSmall : Op → Type 0
IsOfSmall o = (o ≡ SmallD) ⊎ (o ≡ G)

abbrev pub IsOfBig : Op → Type 0
IsOfBig o = (o ≡ F) ⊎ (o ≡ H)

-- a degree, whose sum with the other number is at most 24
abbrev pub IsInDegree : Place → ℕ → Type 0
IsInDegree place more = (n : ℕ) × (place ≡ Degree n) × (n + more ≤ 24)

abbrev pub small_row : ℕ → ℕ → Place
small_row dim row = SmallPlace (One (RowCell dim row))

abbrev pub big_row : ℕ → ℕ → Place
big_row dim row = BigPlace (RowCell dim row)

-- one of the rows, with its dimension, which is at most 24
pub record IsAtRow (place_of : ℕ → ℕ → Place) (rows : List Row) (place : Place) : Type 0 where
  pub row : ℕ
  pub within : row < length rows
  pub dim : (otherwise : Row) → (slice_index_or rows row otherwise).dim ≡ row_dim (rows_of rows) row
  pub low : row_dim (rows_of rows) row ≤ 24
  pub is : place ≡ place_of (row_dim (rows_of rows) row) row

-- the vertex, or the cell of the sphere
abbrev pub IsAtSmallSphere : ℕ → Place → Type 0
IsAtSmallSphere m place = (place ≡ SmallPlace (One Base)) ⊎ (place ≡ SmallPlace (One (Top m)))

abbrev pub IsAtSphere : ℕ → Place → Type 0
IsAtSphere m place = (place ≡ BigPlace Base) ⊎ (place ≡ BigPlace (Top m))
