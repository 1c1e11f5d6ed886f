-- The table of a sphere of the code: rows of the plain table of the sphere, with names (the sphere has two non-degenerate simplices, a
-- vertex and a cell all of whose faces are degeneracies of it: Kenzo documentation, 1999, on spheres; May, Simplicial Objects in Algebraic
-- Topology, chapter I).
--
--   the table of the sphere of dimension 2: a row `*` of dimension 0, and a row `S2` of dimension 2 with the faces s_0 *, s_0 *, s_0 *
use Rattle.std.specs.Prelude.{◌≡◌, ◌++◌, ◌-◌, ℕ, suc, List, [], ◌∷◌, map, codes}
use Rattle.std.specs.Fmt.{decimal}
use Rattle.spaces.specs.Tables.{Row as TableRow, RowSimplex, copies, all_degeneracies, sphere_rows}
use Rattle.term_lang.specs.Rows.{rows_of}
use Rattle.term_lang.specs.declared.tables.Row.{Row}

-- a row without its name
abbrev pub unnamed : TableRow → TableRow
unnamed row = record { name = []; dim = row.dim; faces = row.faces }

abbrev pub name_in : TableRow → List ℕ
name_in row = row.name

-- `*`, and S with the dimension in decimals
abbrev pub sphere_names : ℕ → List (List ℕ)
sphere_names n = codes "*" ∷ ((codes "S" ++ decimal n) ∷ [])

-- the faces of the cell
abbrev pub sphere_faces : ℕ → List RowSimplex
sphere_faces n = copies (suc n) (all_degeneracies (n - 1), 0)

pub record IsSphereTable (n : ℕ) (rows : List Row) : Type 0 where
  pub names_are : map name_in (rows_of rows) ≡ sphere_names n
  pub rows_are : map unnamed (rows_of rows) ≡ sphere_rows n
