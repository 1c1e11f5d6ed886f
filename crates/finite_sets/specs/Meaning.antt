-- What rows mean as they are written: the rows of a table, where each face names a row (a finite simplicial set is given by its
-- non-degenerate simplices and their faces: Kenzo documentation, 1999, on finite simplicial sets; May, Simplicial Objects in Algebraic
-- Topology, chapter I).
--
-- A row without faces is a vertex, and a row with n + 1 faces has dimension n. A face is a word of degeneracies before the row of its name.
--
--   (v), (e v v), (t e 0:v e) mean a vertex, an edge with both faces row 0, and a triangle with the faces row 1, s_0 of row 0, and row 1
use Rattle.std.specs.Prelude.{ℕ, suc, ◌-◌, cond, List, [], ◌∷◌, length, map, nat_eq}
use Rattle.std.specs.Cmp.Lexicographic.{pointwise}
use Rattle.spaces.specs.Tables.{Table, Row as TableRow, RowSimplex, entry}
use Rattle.term_lang.specs.declared.texts.FaceText.{FaceText}
use Rattle.term_lang.specs.declared.texts.RowText.{RowText}

-- the place of the first row with the name, or the number of rows where none has it
abbrev pub place_of : List RowText → List ℕ → ℕ
place_of [] name = 0
place_of (row ∷ rows) name = cond (pointwise nat_eq row.name name) 0 (suc (place_of rows name))

-- the row at a place
abbrev pub text_at : List RowText → ℕ → RowText
text_at rows r = entry (record { name = []; faces = [] }) rows r

-- the face of a row at a place
abbrev pub face_at : RowText → ℕ → FaceText
face_at row i = entry (record { word = []; name = [] }) row.faces i

abbrev pub face_meant : List RowText → FaceText → RowSimplex
face_meant rows face = (face.word, place_of rows face.name)

abbrev pub row_meant : List RowText → RowText → TableRow
row_meant rows row = record { name = row.name; dim = length row.faces - 1; faces = map (face_meant rows) row.faces }

abbrev pub meaning_of : List RowText → Table
meaning_of rows = map (row_meant rows) rows
