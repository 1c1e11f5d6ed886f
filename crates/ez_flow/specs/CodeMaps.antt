-- Maps on pairs of plain simplices, read on the cells of the code, and the cells of the code for their values.
--
--   on the torus the flow of <S1,S1> over F_3 is read as 2 times the cell <0:S1,1:S1>
use Rattle.std.specs.Prelude.{ℕ, ◌+◌, [], count_ones}
use Rattle.fp_field.specs.Chains.{Terms}
use Rattle.spaces.specs.EilenbergZilber.{Pair}
use Rattle.cells.specs.declared.cells.Cell.{Cell, out-Cell}
use Rattle.cells.specs.declared.cells.Cell.TheOpen.{Cell-F}
use Rattle.cells.specs.declared.cells.Cell.TheVariants.{Pair as PairCell}
use Rattle.cells.specs.declared.cells.Letter.{Letter}
use Rattle.cells.specs.declared.cells.Simplex.{Simplex}
use Rattle.ez_laws.specs.Sides.{on_keys}
use Rattle.ez_flow.specs.Parts.{pair_weight}

abbrev pub terms_in : {B : Type 0} → (Simplex → Simplex → Terms B) → Cell-F Cell Letter Simplex → Terms B
terms_in f (Cell-F.Pair a b) = f a b
terms_in f c = []

-- a chain made from the simplices of a pair, 0 on other cells
abbrev pub pair_terms : {B : Type 0} → (Simplex → Simplex → Terms B) → Cell → Terms B
pair_terms f c = terms_in f (out-Cell c)

-- the degree of a left simplex, where a left cell counts for a degree
abbrev pub left_degree_in : (Cell → ℕ) → Simplex → ℕ
left_degree_in degree a = count_ones a.degens.mask + degree a.cell

-- the degree that the left cell of a pair counts for, and the degree of the pair
abbrev pub left_cell_degree : (Cell → ℕ) → Cell → ℕ
left_cell_degree degree c = pair_weight (λ a b. degree a.cell) c

abbrev pub pair_degree : (Cell → ℕ) → Cell → ℕ
pair_degree degree c = pair_weight (λ a b. left_degree_in degree a) c

-- the cell of the code for a pair of plain simplices
abbrev pub cell_for : {K J : Type 0} → (ℕ → K → Simplex) → (ℕ → J → Simplex) → Pair K J → Cell
cell_for left_simplex right_simplex s = PairCell (left_simplex s.0 s.1) (right_simplex s.0 s.2)

-- a map on pairs of plain simplices, read on cells, with the keys of the code that `key` gives
abbrev pub on_cells : {K J A B : Type 0} → (Cell → ℕ) → (Simplex → K) → (Simplex → J) → (A → B) → (Pair K J → Terms A) → Cell → Terms B
on_cells degree left_form right_form key f c =
    pair_terms (λ a b. on_keys key (f (left_degree_in degree a, left_form a, right_form b))) c
