-- How far a table is built: the rows before a place are without fault, they stand as they are meant, and a map has the place of each name
-- (the simplices of a finite simplicial set are given one after another, each by earlier ones: Kenzo documentation, 1999).
--
--   after (v), (e v v) of three rows: the map has v at 0 and e at 1
use Rattle.std.specs.Prelude.{◌≡◌, ℕ, suc, ◌<◌, ◌≤◌, cond, List, [], length, Option, Some, None, take}
use Rattle.std.specs.Ordering.{nat_cmp}
use Rattle.std.specs.Cmp.Lexicographic.{slice_cmp}
use Rattle.std.specs.BTreeMap.{BTreeMap, get}
use Rattle.spaces.specs.Tables.{Table, RowSimplex, row_at, row_face, row_degree, InTable}
use Rattle.spaces.specs.Allowed.{face_count}
use Rattle.term_lang.specs.declared.tables.Row.{Row}
use Rattle.term_lang.specs.declared.texts.RowText.{RowText}
use Rattle.term_lang.specs.Rows.{rows_of}
use Rattle.finite_sets.specs.Meaning.{place_of, meaning_of}
use Rattle.finite_sets.specs.Faults.{is_before, first_below, row_fault}

-- a map from names to places
abbrev pub Places : Type 0
Places = BTreeMap (List ℕ) ℕ

abbrev pub place_in : Places → List ℕ → Option ℕ
place_in places name = get (slice_cmp nat_cmp) places name

-- the place of the row before place r that has the name
abbrev pub place_before : List RowText → ℕ → List ℕ → Option ℕ
place_before texts r name = cond (is_before texts r name) (Some (place_of texts name)) None

pub record IsBuilt (texts : List RowText) (r : ℕ) (built : List Row) (places : Places) : Type 0 where
  pub few : length texts ≤ 256
  pub within : r ≤ length texts
  pub faultless : first_below r (row_fault texts) ≡ None
  pub rows : rows_of built ≡ take r (meaning_of texts)
  pub named : (name : List ℕ) → place_in places name ≡ place_before texts r name

-- the rows have as many faces as their dimension, at most 16, asks for, and these are simplices one degree below
pub record HasSimplices (t : Table) : Type 0 where
  pub counted : (r : ℕ) → r < length t → length (row_at t r).faces ≡ face_count (row_at t r).dim
  pub low : (r : ℕ) → r < length t → (row_at t r).dim ≤ 16
  pub faces_in : (r n i : ℕ) → r < length t → (row_at t r).dim ≡ suc n → i ≤ suc n → InTable t n (row_face t i ([], r))

-- a simplex of a degree from 1 to 16, of which d_i is meant
pub record HasFace (t : Table) (i : ℕ) (x : RowSimplex) : Type 0 where
  pub simplex : InTable t (row_degree t x) x
  pub positive : 0 < row_degree t x
  pub low : row_degree t x ≤ 16
  pub index : i ≤ row_degree t x
