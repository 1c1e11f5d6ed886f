-- Places in a suspension (Rubio and Sergeraert, Constructive Homological Algebra and Applications, on suspensions; May, Simplicial Objects,
-- chapter VI, 27).
--
-- In degrees from 2 on a suspension is its part one degree below. The base and the degrees 0 and 1 lie over nothing of the part.
--
--   the place at Up of Top(2) lies over the place at Top(2), degree 3 over degree 2, and degree 1 over nothing
use Rattle.std.specs.Prelude.{ℕ, ◌-◌, nat_lt, cond, Option, Some, None}
use Rattle.std.specs.Option.{option_map}
use Rattle.values.specs.Sizes.{Size}
use Rattle.cells.specs.declared.cells.Cell.{Cell, out-Cell}
use Rattle.cells.specs.declared.cells.Cell.TheOpen.{Cell-F}
use Rattle.cells.specs.declared.cells.Letter.{Letter}
use Rattle.cells.specs.declared.cells.Simplex.{Simplex}
use Rattle.cells.specs.declared.cells.SmallCell.{SmallCell, out-SmallCell}
use Rattle.cells.specs.declared.cells.SmallCell.TheOpen.{SmallCell-F}
use Rattle.oracle_iface.specs.CodeSizes.{cell_letters, cell_integer, small_cell_letters, small_cell_integer}
use Rattle.oracle_iface.specs.declared.keys.Place.{Place}
use Rattle.oracle_iface.specs.declared.keys.Place.TheVariants.{Degree, Small, Big}

-- the cell that one is Up of
abbrev pub cell_below : Cell-F Cell Letter Simplex → Option Cell
cell_below (Cell-F.Row dim row) = None
cell_below Cell-F.Base = None
cell_below (Cell-F.Top n) = None
cell_below (Cell-F.Pair x y) = None
cell_below (Cell-F.Up c) = Some c
cell_below (Cell-F.Ints list) = None
cell_below (Cell-F.Word letters) = None

abbrev pub small_below : SmallCell-F SmallCell → Option SmallCell
small_below (SmallCell-F.One c) = None
small_below (SmallCell-F.Pair x y) = None
small_below (SmallCell-F.Up y) = Some y
small_below (SmallCell-F.Word letters) = None

abbrev pub degree_below : ℕ → Option ℕ
degree_below n = cond (nat_lt n 2) None (Some (n - 1))

-- what a place lies over
abbrev pub part_place : Place → Option Place
part_place (Degree n) = option_map (λ m. Degree m) (degree_below n)
part_place (Small y) = option_map (λ z. Small z) (small_below (out-SmallCell y))
part_place (Big x) = option_map (λ z. Big z) (cell_below (out-Cell x))

-- the size of what is at a place
abbrev pub size_at : Place → Size
size_at (Degree n) = record { letters = 0; integer = 0; terms = 0 }
size_at (Small y) = record { letters = small_cell_letters y; integer = small_cell_integer y; terms = 0 }
size_at (Big x) = record { letters = cell_letters x; integer = cell_integer x; terms = 0 }
