-- The rows of a table of the code, as the rows of a simplicial set that is given by its non-degenerate simplices and their faces (May,
-- Simplicial Objects in Algebraic Topology, chapter I). A mask stands for its strictly decreasing word of degeneracies; names are kept.
--
--   a face with the mask 3 on row 0 is the simplex (1 ∷ 0 ∷ [], 0), which is s_1 s_0 of row 0
use Rattle.std.specs.Prelude.{List, map}
use Rattle.simp_ops.specs.Bits.{mask_word}
use Rattle.spaces.specs.Tables.{Row as TableRow, RowSimplex, Table}
use Rattle.term_lang.specs.declared.tables.TableFace.{TableFace}
use Rattle.term_lang.specs.declared.tables.Row.{Row}

abbrev pub face_of : TableFace → RowSimplex
face_of f = (mask_word f.degens.mask, f.row)

abbrev pub row_of : Row → TableRow
row_of r = record { name = r.name; dim = r.dim; faces = map face_of r.faces }

abbrev pub rows_of : List Row → Table
rows_of rows = map row_of rows
