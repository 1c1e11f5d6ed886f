-- The vectors of cycles over any cells with an order, and the rows whose relations they are.
--
-- Over cells of one degree, with their differentials, and the differentials of the cells one degree higher: the complement of the span of
-- the latter in the vectors whose differential is 0. These are the vectors that are 0 at the leading places of the span, and whose
-- differential is 0: so they are the relations between rows, of which a marked cell, at a leading place, has a place of its own, and
-- each other cell has the coordinates of its differential over all cells that occur.
--
--   over 3 a cell that is not marked, with the differential 2 a + b, has over a, b, c and two cells the row (2,1,0,0,0); the second of the
--   two, if it is marked, has the row (0,0,0,0,1)
use Rattle.std.specs.Prelude.{ℕ, suc, ◌%◌, Bool, true, false, List, [], ◌∷◌, ◌++◌, map, length, slice_set, Contains}
use Rattle.std.specs.Ordering.{eq_by_cmp}
use Rattle.std.specs.declared.cmp.Ordering.{Ordering}
use Rattle.fp_field.specs.Chains.{Terms, EachKey, coeff, combination}
use Rattle.fp_field.specs.Normal.{normal}
use Rattle.echelons.specs.Echelon.{Vector, zeros, lead, complement, in_span}
use Rattle.elim_fp.specs.Rows.{unit}
use Rattle.values.specs.Cycles.{is_empty}
use Rattle.cells.specs.declared.cells.SmallCell.{SmallCell}
use Rattle.oracle_iface.specs.declared.cell_values.CellValue.{CellValue}
use Rattle.homology_rules.specs.Held.{small_in}

module _ {K : Type 0} (cmp : K → K → Ordering) (p : ℕ) where
  -- the coefficients of a chain at cells
  abbrev pub coordinates_over : List K → Terms K → Vector
  coordinates_over ys c = map (λ y. coeff (eq_by_cmp cmp) c y % p) ys

  -- the vectors over cells with the differentials ds whose own is 0
  abbrev pub is_cycle_over : List (Terms K) → Vector → Bool
  is_cycle_over ds v = is_empty (normal cmp p (combination v ds))

  -- over the cells ys with the differentials ds, below cells with the differentials es
  abbrev pub cycle_vectors_over : List K → List (Terms K) → List (Terms K) → List Vector
  cycle_vectors_over ys ds es = complement p (length ys) (is_cycle_over ds) (in_span p (length ys) (map (coordinates_over ys) es))

  -- the row of the cell at place i of n, marked or not, with a differential over some cells
  abbrev pub kernel_row : List K → ℕ → Bool → Terms K → ℕ → Vector
  kernel_row cells n true d i = zeros (length cells) ++ unit i n
  kernel_row cells n false d i = coordinates_over cells d ++ zeros n

  -- the rows of cells from place i on
  abbrev pub kernel_rows : List K → ℕ → ℕ → List Bool → List (Terms K) → List Vector
  kernel_rows cells n i [] ds = []
  kernel_rows cells n i (m ∷ ms) [] = []
  kernel_rows cells n i (m ∷ ms) (d ∷ ds) = kernel_row cells n m d i ∷ kernel_rows cells n (suc i) ms ds

-- the small chains that cells of the table hold
abbrev pub small_chains : List CellValue → List (Terms SmallCell)
small_chains cells = map (λ v. (small_in v.outcome).terms) cells

-- each cell of the chains is one of the cells
abbrev pub AreCovered : {K : Type 0} → List K → List (Terms K) → Type 0
AreCovered cells [] = Unit {0}
AreCovered cells (d ∷ ds) = EachKey (Contains cells) d × AreCovered cells ds

-- the places at which vectors lead are marked, beside those that are marked already
abbrev pub marked_by : List Bool → List Vector → List Bool
marked_by marks [] = marks
marked_by marks (v ∷ vs) = marked_by (slice_set marks (lead v) true) vs
