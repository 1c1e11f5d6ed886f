-- The dimension of a cell and the degree of a simplex.
--
-- A simplex of degree n is a strictly decreasing word of degeneracies before a cell of dimension n minus the length of the word
-- (May, Simplicial Objects in Algebraic Topology, section 2). A cell of K(Z,1) has as many integers as its dimension; a suspended
-- cell is one dimension above the cell; a pair has the degree of each of its simplices; a word of a loop group is one degree below
-- its letters (May, chapters 4 to 6). A cell of no space has these numbers too: a pair that of its left simplex, a word that of its
-- first letter, and the empty word 0. Where a number would be above 4,294,967,295 it is that number, at each level on the way up.
-- For example the degree of s_2 s_0 before the suspension of the cell of the 2-sphere is 2 + 3, so 5.
use Rattle.std.specs.Prelude.{ℕ, ◌+◌, ◌-◌, min, List, [], ◌∷◌, length, count_ones}
use Rattle.cells.specs.declared.cells.Cell.{Cell, fold-Cell}
use Rattle.cells.specs.declared.cells.Cell.TheOpen.{Cell-F, Letter-F, Simplex-F}
use Rattle.cells.specs.declared.cells.Simplex.{Simplex}

abbrev pub capped : ℕ → ℕ
capped n = min n 4294967295

abbrev pub first_less_one : List ℕ → ℕ
first_less_one [] = 0
first_less_one (n ∷ w) = n - 1

-- from the dimensions of the cells in it and the degrees of its simplices
abbrev pub cell_dim : Cell-F ℕ ℕ ℕ → ℕ
cell_dim (Cell-F.Row dim row) = dim
cell_dim Cell-F.Base = 0
cell_dim (Cell-F.Top n) = n
cell_dim (Cell-F.Pair a b) = a
cell_dim (Cell-F.Up c) = capped (c + 1)
cell_dim (Cell-F.Ints list) = capped (length list)
cell_dim (Cell-F.Word letters) = first_less_one letters

abbrev pub letter_degree : Letter-F ℕ ℕ ℕ → ℕ
letter_degree l = l.simplex

abbrev pub simplex_degree : Simplex-F ℕ ℕ ℕ → ℕ
simplex_degree x = capped (count_ones x.degens.mask + x.cell)

unfoldable pub dim_of : Cell → ℕ
dim_of c = fold-Cell ℕ ℕ ℕ cell_dim letter_degree simplex_degree c

abbrev pub degree_of : Simplex → ℕ
degree_of x = capped (count_ones x.degens.mask + dim_of x.cell)
