-- Why rows as they are written are no table: the first fault in the order of the checks (that the faces of each simplex satisfy
-- d_i d_j = d_(j-1) d_i for i below j: May, Simplicial Objects in Algebraic Topology, definition 1.1; Kenzo documentation, 1999, on the
-- verification of finite simplicial sets).
--
-- Two checks of the whole list come first: there are at most 256 rows, and one is a vertex. Then each row in turn is checked: no earlier row
-- has its name; it has no faces or from 2 to 17; face by face, an earlier row has the face's name, and the face is a simplex one degree below;
-- and the law holds between each two faces i below j, by i and then j. Rows and faces are numbered from 0.
--
--   (a), (b), (e a b), (t e e e) has the fault FaceLaw 3 0 2: d_0 d_2 of t is a, and d_1 d_0 of t is b
use Rattle.std.specs.Prelude.{ℕ, zero, suc, ◌-◌, Bool, true, not, ◌&&◌, ◌||◌, ◌==◌, nat_lt, nat_le, cond, List, [], ◌∷◌, length, Option, Some, None, nat_eq}
use Rattle.std.specs.List.{list_any}
use Rattle.std.specs.Cmp.Lexicographic.{pointwise}
use Rattle.spaces.specs.Tables.{Table, RowSimplex, row_at, row_face, row_degree}
use Rattle.term_lang.specs.declared.texts.RowText.{RowText}
use Rattle.finite_sets.specs.declared.faults.TableFault.{TableFault}
use Rattle.finite_sets.specs.declared.faults.TableFault.TheVariants.{NoVertex, BadDimension, UnknownCell, FaceLaw, TooManyCells, DuplicateCell}
use Rattle.finite_sets.specs.Meaning.{place_of, text_at, face_at, face_meant, meaning_of}

abbrev pub Fault : Type 0
Fault = Option TableFault

-- the first of two
abbrev pub or_else : Fault → Fault → Fault
or_else None g = g
or_else (Some f) g = Some f

-- the first of f 0, .., f (n - 1)
abbrev pub first_below : ℕ → (ℕ → Fault) → Fault
first_below zero f = None
first_below (suc n) f = or_else (first_below n f) (f n)

-- the fault, unless a test passes
abbrev pub unless : Bool → TableFault → Fault
unless b f = cond b None (Some f)

-- ---- the whole list

abbrev pub is_vertex : RowText → Bool
is_vertex row = length row.faces == 0

unfoldable pub list_fault : List RowText → Fault
list_fault rows = or_else (unless (nat_le (length rows) 256) (TooManyCells (length rows))) (unless (list_any is_vertex rows) NoVertex)

-- ---- a row and its faces

-- a row before place r has the name
abbrev pub is_before : List RowText → ℕ → List ℕ → Bool
is_before rows r name = nat_lt (place_of rows name) r

-- no faces, or from 2 to 17
abbrev pub is_count : ℕ → Bool
is_count n = (n == 0) || (nat_le 2 n && nat_le n 17)

-- a strictly decreasing word of places below n
abbrev pub is_word : ℕ → List ℕ → Bool
is_word n [] = true
is_word n (j ∷ w) = nat_lt j n && is_word j w

-- a simplex of degree n on the rows
abbrev pub is_in : Table → ℕ → RowSimplex → Bool
is_in t n x = nat_lt x.1 (length t) && ((row_degree t x == n) && is_word n x.0)

-- one degree below the row, which has two faces more than that degree
unfoldable pub face_fault : List RowText → ℕ → ℕ → Fault
face_fault rows r i =
    let row = text_at rows r in
    let face = face_at row i in
    or_else (unless (is_before rows r face.name) (UnknownCell r i)) (unless (is_in (meaning_of rows) (length row.faces - 2) (face_meant rows face)) (BadDimension r))

-- the first fault of its faces
abbrev pub faces_fault : List RowText → ℕ → Fault
faces_fault rows r = first_below (length (text_at rows r).faces) (face_fault rows r)

unfoldable pub own_fault : List RowText → ℕ → Fault
own_fault rows r =
    let row = text_at rows r in
    or_else (unless (not (is_before rows r row.name)) (DuplicateCell r))
    (or_else (unless (is_count (length row.faces)) (BadDimension r)) (faces_fault rows r))

-- ---- the law between two faces

abbrev pub is_same : RowSimplex → RowSimplex → Bool
is_same x y = pointwise nat_eq x.0 y.0 && (x.1 == y.1)

-- d_i d_j is d_(j-1) d_i on row r, or i is not below j
abbrev pub is_law : Table → ℕ → ℕ → ℕ → Bool
is_law t r i j = not (nat_lt i j) || is_same (row_face t i (row_face t j ([], r))) (row_face t (j - 1) (row_face t i ([], r)))

-- the first j for which the law fails
unfoldable pub law_fault_at : Table → ℕ → ℕ → Fault
law_fault_at t r i = first_below (suc (row_at t r).dim) (λ j. unless (is_law t r i j) (FaceLaw r i j))

-- the faces of an edge are vertices, which have no faces
unfoldable pub law_fault : Table → ℕ → Fault
law_fault t r = cond (nat_le (row_at t r).dim 1) None (first_below (suc (row_at t r).dim) (law_fault_at t r))

-- ---- all

unfoldable pub row_fault : List RowText → ℕ → Fault
row_fault rows r = or_else (own_fault rows r) (law_fault (meaning_of rows) r)

unfoldable pub fault_of : List RowText → Fault
fault_of rows = or_else (list_fault rows) (first_below (length rows) (row_fault rows))
