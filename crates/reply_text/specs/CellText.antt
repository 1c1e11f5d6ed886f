-- The text of a cell, a simplex and a chain of a space.
--
-- A simplex is printed in its normal form: its degeneracies in decreasing order with `-` between them and a `:` at the end, where there are
-- any, and then the cell (Kenzo documentation, 1999, on the printing of geometric and abstract simplices). The cells:
--
--   a row of a table           its name
--   of a sphere                `*` for the vertex, `S` and the dimension for the other cell
--   a pair                     `<a,b>`, of the parts of a product, or of base and fibre
--   of a suspension            `*` for the vertex, `^` before the suspended cell
--   a cell of K(Z,1)           `|`, and then each integer with a `|`
--   a word of a loop group     the letters in `[` and `]`, one space between them, `-` before the inverse of a letter
--
-- The fibre of a bundle is K(Z,1), that of a path space is the loop group. A chain is printed as 0, or as its terms in order with one space
-- between them, each a coefficient and a cell in parentheses. A row that is in no table of the space has no bytes.
--
--   s_3 s_0 before the word of s_1 S2 and the inverse of s_2 S2 is 3-0:[1:S2 -2:S2]
use Rattle.std.specs.Prelude.{ℕ, ◌++◌, Bool, true, false, List, [], ◌∷◌, map, codes}
use Rattle.std.specs.List.{flat_map}
use Rattle.std.specs.Fmt.{decimal, signed_decimal}
use Rattle.simp_ops.specs.Bits.{mask_word}
use Rattle.fp_field.specs.Chains.{Terms}
use Rattle.spaces.specs.Tables.{row_at}
use Rattle.spaces.specs.Spaces.{Space, table, product, suspension, kz1, bundle, loops, paths, kzm1, cyclic_bundle}
use Rattle.cells.specs.declared.cells.Cell.{Cell, fold-Cell}
use Rattle.cells.specs.declared.cells.Cell.TheOpen.{Cell-F, Letter-F, Simplex-F}
use Rattle.cells.specs.declared.cells.Letter.{Letter}
use Rattle.cells.specs.declared.cells.Simplex.{Simplex}

-- one space between texts
abbrev pub spaced : List (List ℕ) → List ℕ
spaced [] = []
spaced (x ∷ xs) = x ++ flat_map (λ y. codes " " ++ y) xs

-- the space before a text, unless it is the first one
abbrev pub gap : Bool → List ℕ
gap true = []
gap false = codes " "

-- the sign of a letter
abbrev pub sign : Bool → List ℕ
sign true = codes "-"
sign false = []

-- ---- the spaces of the parts of a cell

-- of the left simplex of a pair: the left part or the base
abbrev pub left_part : Space → Space
left_part (product a b) = a
left_part (bundle t c) = table t
left_part (paths a) = a
left_part (cyclic_bundle t m c) = table t
left_part X = X

-- of the right simplex of a pair: the right part or the fibre
abbrev pub right_part : Space → Space
right_part (product a b) = b
right_part (bundle t c) = kz1
right_part (paths a) = loops a
right_part (cyclic_bundle t m c) = kzm1 m
right_part X = X

-- of a suspended cell and of a letter
abbrev pub part_below : Space → Space
part_below (suspension a) = a
part_below (loops a) = a
part_below X = X

-- ---- cells and simplices

-- the name of a row of the table
abbrev pub row_text : Space → ℕ → List ℕ
row_text (table t) row = (row_at t row).name
row_text X row = []

abbrev pub more_degens : List ℕ → List ℕ
more_degens [] = codes ":"
more_degens (j ∷ w) = codes "-" ++ (decimal j ++ more_degens w)

-- a word of degeneracies, the last one first
abbrev pub degens_text : List ℕ → List ℕ
degens_text [] = []
degens_text (j ∷ w) = decimal j ++ more_degens w

-- what is left of a word's text before its next degeneracy: `is_first` says that none stands before it
abbrev pub degens_left : Bool → List ℕ → List ℕ
degens_left true w = degens_text w
degens_left false w = more_degens w

-- the text in a space
abbrev pub TextIn : Type 0
TextIn = Space → List ℕ

-- from the texts of the cells, letters and simplices in a cell
abbrev pub cell_step : Cell-F TextIn TextIn TextIn → TextIn
cell_step (Cell-F.Row dim row) X = row_text X row
cell_step Cell-F.Base X = codes "*"
cell_step (Cell-F.Top n) X = codes "S" ++ decimal n
cell_step (Cell-F.Pair x y) X = codes "<" ++ (x (left_part X) ++ (codes "," ++ (y (right_part X) ++ codes ">")))
cell_step (Cell-F.Up c) X = codes "^" ++ c (part_below X)
cell_step (Cell-F.Ints list) X = codes "|" ++ flat_map (λ k. signed_decimal k ++ codes "|") list
cell_step (Cell-F.Word letters) X = codes "[" ++ (spaced (map (λ l. l (part_below X)) letters) ++ codes "]")

abbrev pub letter_step : Letter-F TextIn TextIn TextIn → TextIn
letter_step l X = sign l.inverse ++ l.simplex X

abbrev pub simplex_step : Simplex-F TextIn TextIn TextIn → TextIn
simplex_step x X = degens_text (mask_word x.degens.mask) ++ x.cell X

unfoldable pub cell_text : Cell → TextIn
cell_text c = fold-Cell TextIn TextIn TextIn cell_step letter_step simplex_step c

abbrev pub simplex_text : Simplex → TextIn
simplex_text x X = degens_text (mask_word x.degens.mask) ++ cell_text x.cell X

abbrev pub letter_text : Letter → TextIn
letter_text l X = sign l.inverse ++ simplex_text l.simplex X

-- ---- chains

-- a coefficient and a cell
abbrev pub term_text : Space → Cell → ℕ → List ℕ
term_text X c n = codes "(" ++ (decimal n ++ (codes " " ++ (cell_text c X ++ codes ")")))

abbrev pub chain_text : Space → Terms Cell → List ℕ
chain_text X [] = codes "0"
chain_text X (t ∷ ts) = spaced (map (λ u. term_text X u.0 u.1) (t ∷ ts))
