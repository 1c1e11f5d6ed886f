-- A row of the code and a listed face of it, as the table of the space has them.
use Rattle.std.proofs.Common.{◌≡◌, ℕ, zero, suc, ◌<◌, List, [], ◌∷◌, length, map, get_or, sym, ◌∙◌, ap, subst, arith}
use Rattle.std.proofs.lemmas.List.{length-map}
use Rattle.spaces.specs.Tables.{Row as TableRow, RowSimplex, entry, row_at, listed_face}
use Rattle.spaces.specs.Allowed.{IsTable}
use Rattle.term_lang.specs.declared.tables.TableFace.{TableFace}
use Rattle.term_lang.specs.declared.tables.Row.{Row}
use Rattle.term_lang.specs.Rows.{face_of, row_of, rows_of}

-- an item that was read
entry-map : {A B : Type 0} (f : A → B) (d : B) (x : A) (xs : List A) (i : ℕ) → i < length xs → x ≡ get_or xs i x → entry d (map f xs) i ≡ f x
entry-map f d x [] i h e = absurd (omega arith)
entry-map f d x (y ∷ xs) zero h e = ap f (sym e)
entry-map f d x (y ∷ xs) (suc i) h e = entry-map f d x xs i (omega arith) e

pub row-read : (rows : List Row) (r : ℕ) (row : Row) → r < length rows → row ≡ get_or rows r row → row_at (rows_of rows) r ≡ row_of row
row-read rows r row h e = entry-map row_of (record { name = []; dim = 0; faces = [] }) row rows r h e

-- what was read of a row and of its face j
pub record Listed (rows : List Row) (r j : ℕ) (faces : List TableFace) (face : TableFace) : Type 0 where
  pub listed : listed_face (rows_of rows) j r ≡ face_of face
  pub within : face.row < length rows

pub face_within : (rows : List Row) (r j : ℕ) (row : Row) (faces : List TableFace) → r < length rows → j < length (row_at (rows_of rows) r).faces
    → row ≡ get_or rows r row → faces ≡ (get_or rows r row).faces → j < length faces
face_within rows r j row faces h l e f =
    let s : faces ≡ row.faces = f ∙ ap (λ (x : Row). x.faces) (sym e) in
    subst (λ n. j < n) (ap (λ (x : TableRow). length x.faces) (row-read rows r row h e) ∙ length-map row.faces face_of ∙ ap length (sym s)) l

pub face_read : (rows : List Row) (r j : ℕ) (row : Row) (faces : List TableFace) (face : TableFace) → IsTable (rows_of rows) → r < length rows
    → j < length (row_at (rows_of rows) r).faces → row ≡ get_or rows r row → faces ≡ (get_or rows r row).faces → face ≡ get_or faces j face
    → Listed rows r j faces face
face_read rows r j row faces face is h l e f g =
    let s : faces ≡ row.faces = f ∙ ap (λ (x : Row). x.faces) (sym e) in
    let m : j < length row.faces = subst (λ n. j < n) (ap length s) (face_within rows r j row faces h l e f) in
    let listed : listed_face (rows_of rows) j r ≡ face_of face =
    ap (λ (x : TableRow). entry ([], 0) x.faces j) (row-read rows r row h e)
    ∙ entry-map face_of ([], 0) face row.faces j m (g ∙ ap (λ k. get_or k j face) s) in
    let n : r < length (rows_of rows) = subst (λ k. r < k) (sym (length-map rows row_of)) h in
    let below : (listed_face (rows_of rows) j r).1 < r = is.earlier r j n l in
    let low : face.row < r = subst (λ (x : RowSimplex). x.1 < r) listed below in
    record { listed = listed; within = omega (arith, low) }
