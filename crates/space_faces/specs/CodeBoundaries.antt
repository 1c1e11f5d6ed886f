-- The boundary of a cell of the code, as terms of the code.
--
--   a simplex whose mask is not 0 is degenerate, and none of it is kept
use Rattle.std.specs.Prelude.{ℕ, ◌==◌, cond, List, [], ◌∷◌}
use Rattle.fp_field.specs.declared.element.Fp.{Fp}
use Rattle.fp_field.specs.Chains.{Terms}
use Rattle.spaces.specs.Spaces.{Space}
use Rattle.cells.specs.declared.cells.Cell.{Cell}
use Rattle.cells.specs.declared.cells.Simplex.{Simplex}
use Rattle.values.specs.Laws.{cell_d}
use Rattle.oracle_iface.specs.Keys.{quote_chain}
use Rattle.space_faces.specs.Boundaries.{graded}

-- the faces that are not degenerate, with their signs
abbrev pub code_d : ℕ → Space → Cell → Terms Cell
code_d p X c = quote_chain X (cell_d p X (graded X c))

-- the cell of a simplex with this number, unless it is degenerate
abbrev pub kept : Simplex → Fp → List (Cell × Fp)
kept y s = cond (y.degens.mask == 0) ((y.cell, s) ∷ []) []
