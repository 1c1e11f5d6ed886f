-- The plain form of a cell and of a simplex of the code in a space.
--
-- A simplex of the code is a mask and a cell: the strictly decreasing word of degeneracies that the mask stands for, before the cell (May,
-- Simplicial Objects in Algebraic Topology, chapter I; Kenzo documentation, 1999, on geometric and abstract simplices). Its plain form is
-- that word applied to the plain form of the cell, the last degeneracy first. The plain forms of pairs, lists of integers and words are
-- made part by part, and a suspended cell is (0, c) of its cell c. What is no cell of the space has the form of its vertex.
--
--   the mask 5 before Top(2) is s_2 s_0 of the cell of the sphere of dimension 2, of degree 4: (2 ∷ 0 ∷ [], 1)
use Rattle.std.specs.Prelude.{Bool, [], map, Some, None, nat_abs}
use Rattle.simp_ops.specs.Bits.{mask_word}
use Rattle.spaces.specs.Spaces.{Space, table, sphere, product, suspension, kz1, bundle, loops, paths, kzm1, cyclic_bundle, Plain, set_of}
use Rattle.cells.specs.declared.cells.Cell.{Cell, fold-Cell}
use Rattle.cells.specs.declared.cells.Cell.TheOpen.{Cell-F, Letter-F, Simplex-F}
use Rattle.cells.specs.declared.cells.Letter.{Letter}
use Rattle.cells.specs.declared.cells.Simplex.{Simplex}
use Rattle.term_lang.specs.Degenerated.{degenerated}

-- a vertex of the space, which is the one where there is only one
abbrev pub vertex_of : (X : Space) → Plain X
vertex_of (table t) = ([], 0)
vertex_of (sphere m) = ([], 0)
vertex_of (product a b) = (vertex_of a, vertex_of b)
vertex_of (suspension a) = None
vertex_of kz1 = []
vertex_of (bundle t c) = (([], 0), [])
vertex_of (loops a) = []
vertex_of (paths a) = (vertex_of a, [])
vertex_of (kzm1 m) = []
vertex_of (cyclic_bundle t m c) = (([], 0), [])

abbrev pub Form : Type 0
Form = (X : Space) → Plain X

abbrev pub LetterForm : Type 0
LetterForm = (X : Space) → Bool × Plain X

-- from the forms of the cells, letters and simplices in a cell
abbrev pub cell_step : Cell-F Form LetterForm Form → Form
cell_step (Cell-F.Row dim row) (table t) = ([], row)
cell_step (Cell-F.Top n) (sphere m) = ([], 1)
cell_step (Cell-F.Pair x y) (product a b) = (x a, y b)
cell_step (Cell-F.Pair x y) (bundle t c) = (x (table t), y kz1)
cell_step (Cell-F.Pair x y) (paths a) = (x a, y (loops a))
cell_step (Cell-F.Pair x y) (cyclic_bundle t m c) = (x (table t), y (kzm1 m))
cell_step (Cell-F.Up c) (suspension a) = Some (0, c a)
cell_step (Cell-F.Ints list) kz1 = list
cell_step (Cell-F.Ints list) (kzm1 m) = map nat_abs list
cell_step (Cell-F.Word letters) (loops a) = map (λ l. l a) letters
cell_step c X = vertex_of X

abbrev pub letter_step : Letter-F Form LetterForm Form → LetterForm
letter_step l X = (l.inverse, l.simplex X)

abbrev pub simplex_step : Simplex-F Form LetterForm Form → Form
simplex_step x X = degenerated (set_of X) (mask_word x.degens.mask) (x.cell X)

unfoldable pub cell_form : Cell → Form
cell_form c = fold-Cell Form LetterForm Form cell_step letter_step simplex_step c

-- the word of the mask before the cell
abbrev pub form : Simplex → Form
form x X = degenerated (set_of X) (mask_word x.degens.mask) (cell_form x.cell X)

abbrev pub letter_form : Letter → LetterForm
letter_form l X = (l.inverse, form l.simplex X)
