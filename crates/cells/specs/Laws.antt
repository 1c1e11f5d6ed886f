-- The laws of the orders of cells, letters, simplices and small cells, as `Ord`, `PartialOrd`, `PartialEq` and `Eq` want them. Each
-- order is that of forests on the forest of a value, so each law is that of forests. For example a cell is never less than itself.
use Rattle.std.proofs.Common.{◌≡◌, refl}
use Rattle.std.specs.Ordering.{eq_by_cmp, as_partial_cmp}
use Rattle.std.specs.Cmp.{IsTotalOrder, IsPartialOrder, IsEquivalence, IsPartialEquivalence, Agrees, on_total, partial_order_from_total, eq_by_cmp_equiv, partial_equiv_from_equiv}
use Rattle.cells.specs.declared.cells.Cell.{Cell}
use Rattle.cells.specs.declared.cells.Letter.{Letter}
use Rattle.cells.specs.declared.cells.Simplex.{Simplex}
use Rattle.cells.specs.Order.{forest, cell_cmp, simplex_cmp, letter_cmp, simplex_forest, letter_forest}
use Rattle.cells.specs.declared.cells.SmallCell.{SmallCell}
use Rattle.cells.specs.Small.{small_forest, small_cmp}
use Rattle.cells.specs.ForestLaws.{forest_total}

pub cell_total : IsTotalOrder cell_cmp
cell_total = on_total forest forest_total

pub cell_agrees : Agrees (as_partial_cmp cell_cmp) cell_cmp
cell_agrees x y = refl

pub cell_ties : (x y : Cell) → eq_by_cmp cell_cmp x y ≡ eq_by_cmp cell_cmp x y
cell_ties x y = refl

pub cell_po : IsPartialOrder (eq_by_cmp cell_cmp) (as_partial_cmp cell_cmp)
cell_po = partial_order_from_total cell_total

pub cell_equiv : IsEquivalence (eq_by_cmp cell_cmp)
cell_equiv = eq_by_cmp_equiv cell_total

pub cell_per : IsPartialEquivalence (eq_by_cmp cell_cmp)
cell_per = partial_equiv_from_equiv cell_equiv

pub simplex_total : IsTotalOrder simplex_cmp
simplex_total = on_total simplex_forest forest_total

pub simplex_agrees : Agrees (as_partial_cmp simplex_cmp) simplex_cmp
simplex_agrees x y = refl

pub simplex_ties : (x y : Simplex) → eq_by_cmp simplex_cmp x y ≡ eq_by_cmp simplex_cmp x y
simplex_ties x y = refl

pub simplex_po : IsPartialOrder (eq_by_cmp simplex_cmp) (as_partial_cmp simplex_cmp)
simplex_po = partial_order_from_total simplex_total

pub simplex_equiv : IsEquivalence (eq_by_cmp simplex_cmp)
simplex_equiv = eq_by_cmp_equiv simplex_total

pub simplex_per : IsPartialEquivalence (eq_by_cmp simplex_cmp)
simplex_per = partial_equiv_from_equiv simplex_equiv

pub letter_total : IsTotalOrder letter_cmp
letter_total = on_total letter_forest forest_total

pub letter_agrees : Agrees (as_partial_cmp letter_cmp) letter_cmp
letter_agrees x y = refl

pub letter_ties : (x y : Letter) → eq_by_cmp letter_cmp x y ≡ eq_by_cmp letter_cmp x y
letter_ties x y = refl

pub letter_po : IsPartialOrder (eq_by_cmp letter_cmp) (as_partial_cmp letter_cmp)
letter_po = partial_order_from_total letter_total

pub letter_equiv : IsEquivalence (eq_by_cmp letter_cmp)
letter_equiv = eq_by_cmp_equiv letter_total

pub letter_per : IsPartialEquivalence (eq_by_cmp letter_cmp)
letter_per = partial_equiv_from_equiv letter_equiv

pub small_total : IsTotalOrder small_cmp
small_total = on_total small_forest forest_total

pub small_agrees : Agrees (as_partial_cmp small_cmp) small_cmp
small_agrees x y = refl

pub small_ties : (x y : SmallCell) → eq_by_cmp small_cmp x y ≡ eq_by_cmp small_cmp x y
small_ties x y = refl

pub small_po : IsPartialOrder (eq_by_cmp small_cmp) (as_partial_cmp small_cmp)
small_po = partial_order_from_total small_total

pub small_equiv : IsEquivalence (eq_by_cmp small_cmp)
small_equiv = eq_by_cmp_equiv small_total

pub small_per : IsPartialEquivalence (eq_by_cmp small_cmp)
small_per = partial_equiv_from_equiv small_equiv
