-- The cycles that represent a basis of the homology of a sphere (any text on homology): in degree 0 the vertex, in degree m the cell
-- of the sphere of dimension m, which is at least 1, and none in the other degrees.
--
--   sphere_cycles 2 2 is the one chain S2, and sphere_cycles 2 1 has no chain
use Rattle.std.specs.Prelude.{ℕ, ◌==◌, cond, List, [], ◌∷◌, map}
use Rattle.fp_field.specs.Chains.{Terms}
use Rattle.spaces.specs.Tables.{RowSimplex}

-- a simplex as a chain
abbrev pub single : {K : Type 0} → K → Terms K
single x = (x, 1) ∷ []

-- the simplices of a degree that are not degenerate: row 0 is the vertex, row 1 the cell
abbrev pub sphere_cells : ℕ → ℕ → List RowSimplex
sphere_cells m n = cond (n == 0) (([], 0) ∷ []) (cond (n == m) (([], 1) ∷ []) [])

abbrev pub sphere_cycles : ℕ → ℕ → List (Terms RowSimplex)
sphere_cycles m n = map single (sphere_cells m n)
