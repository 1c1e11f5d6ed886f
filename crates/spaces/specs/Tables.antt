-- Tables: simplicial sets that are given by their non-degenerate simplices and the faces of these.
--
-- A simplex is a strictly decreasing word of degeneracies and a row: (j_1 > .. > j_k, r) is s_{j_1} .. s_{j_k} of row r.
-- Each simplex is so in exactly one way (Eilenberg and Zilber; May, Simplicial Objects, chapter I, 1 and 2), and faces and
-- degeneracies follow the simplicial identities: a face that no s_j absorbs reaches the row, whose list has it. A sphere is the
-- table with the rows `*` and `Sm`.
--
--   table_set (sphere_rows 2) : the face d_1 of s_2 s_0 S2, of degree 4, is s_1 S2, since d_1 s_2 s_0 = s_1 d_1 s_0 = s_1
use Rattle.std.specs.Prelude.{◌≡◌, ℕ, zero, suc, ◌+◌, ◌-◌, ◌<◌, ◌&&◌, ◌==◌, List, [], ◌∷◌, length, nat_eq}
use Rattle.std.specs.Cmp.Lexicographic.{pointwise}
use Rattle.simp_ops.specs.Words.{IsWord, degeneracy_word, compose_words, Passed, absorbed, through, face_word}
use Rattle.spaces.specs.Simplicial.{Simplicial}

-- a degeneracy word, the last degeneracy first, and a row
abbrev pub RowSimplex : Type 0
RowSimplex = List ℕ × ℕ

-- A non-degenerate simplex: its name, its dimension and its faces in order. A row of dimension 0 has none.
pub record Row : Type 0 where
  pub name : List ℕ
  pub dim : ℕ
  pub faces : List RowSimplex

abbrev pub Table : Type 0
Table = List Row

-- the entry at a place, or the other value where there is none
abbrev pub entry : {A : Type 0} → A → List A → ℕ → A
entry d [] i = d
entry d (x ∷ xs) zero = x
entry d (x ∷ xs) (suc i) = entry d xs i

-- a word of degeneracies before a simplex
abbrev pub before_row : List ℕ → RowSimplex → RowSimplex
before_row w x = (compose_words w x.0, x.1)

abbrev pub row_degeneracy : ℕ → RowSimplex → RowSimplex
row_degeneracy i x = (degeneracy_word i x.0, x.1)

module _ (t : Table) where
  abbrev pub row_at : ℕ → Row
  row_at r = entry (record { name = []; dim = 0; faces = [] }) t r

  -- the listed face
  abbrev pub listed_face : ℕ → ℕ → RowSimplex
  listed_face i r = entry ([], 0) (row_at r).faces i

  -- what a face leaves of the word, on the row
  abbrev pub on_row : ℕ → Passed → RowSimplex
  on_row r (absorbed v) = (v, r)
  on_row r (through j v) = before_row v (listed_face j r)

  abbrev pub row_face : ℕ → RowSimplex → RowSimplex
  row_face i x = on_row x.1 (face_word i x.0)

  abbrev pub row_degree : RowSimplex → ℕ
  row_degree x = (row_at x.1).dim + length x.0

  pub record InTable (n : ℕ) (x : RowSimplex) : Type 0 where
    pub row : x.1 < length t
    pub degree : row_degree x ≡ n
    pub word : IsWord n x.0

  abbrev pub table_set : Simplicial RowSimplex
  table_set = record { In = InTable; face = row_face; degeneracy = row_degeneracy; same = λ x y. pointwise nat_eq x.0 y.0 && (x.1 == y.1) }

-- the word of s_{n-1} .. s_0
abbrev pub all_degeneracies : ℕ → List ℕ
all_degeneracies zero = []
all_degeneracies (suc n) = n ∷ all_degeneracies n

abbrev pub copies : {A : Type 0} → ℕ → A → List A
copies zero x = []
copies (suc n) x = x ∷ copies n x

-- the sphere of dimension m: a vertex, and one cell whose faces are degeneracies of it
abbrev pub sphere_rows : ℕ → Table
sphere_rows m =
    record { name = []; dim = 0; faces = [] } ∷ (record { name = []; dim = m; faces = copies (suc m) (all_degeneracies (m - 1), 0) } ∷ [])
