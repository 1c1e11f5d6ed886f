-- The order of terms: by kind in the order of the enum, then by what they hold, parts from left to right; tables row by row, each by
-- name, dimension and faces, of two tables of which one begins the other the shorter first; integers from left to right.
--
-- Each term goes to the forest of all that is compared, in this order, and forests are compared. Terms that compare as equal are the
-- same, so a table of results may be looked up by its term (Kenzo keeps such a list of its spaces by their definitions: Kenzo
-- documentation, 1999, on the slot `orgn`). For example Sphere(2) is less than Sphere(3), and each sphere less than each product.
use Rattle.std.specs.Prelude.{◌≡◌, ℕ, List, [], ◌∷◌, pos, refl}
use Rattle.std.specs.Ordering.{on, eq_by_cmp, as_partial_cmp}
use Rattle.std.specs.Cmp.{IsTotalOrder, IsPartialOrder, IsEquivalence, IsPartialEquivalence, Agrees, on_total, partial_order_from_total, eq_by_cmp_equiv, partial_equiv_from_equiv}
use Rattle.std.specs.declared.cmp.Ordering.{Ordering}
use Rattle.cells.specs.Forests.{Forest, end, item, forest_cmp}
use Rattle.cells.specs.ForestLaws.{forest_total}
use Rattle.cells.specs.Order.{number, ints_forest}
use Rattle.term_lang.specs.declared.tables.TableFace.{TableFace}
use Rattle.term_lang.specs.declared.tables.Row.{Row}
use Rattle.term_lang.specs.declared.terms.Term.{Term, fold-Term, out-Term}
use Rattle.term_lang.specs.declared.terms.Term.TheOpen.{Term-F}

abbrev pub bytes_forest : List ℕ → Forest
bytes_forest [] = end
bytes_forest (b ∷ w) = number b (bytes_forest w)

abbrev pub faces_forest : List TableFace → Forest
faces_forest [] = end
faces_forest (f ∷ w) = number f.degens.mask (number f.row (faces_forest w))

abbrev pub rows_forest : List Row → Forest
rows_forest [] = end
rows_forest (r ∷ w) = item (pos 0) (bytes_forest r.name) (item (pos r.dim) (faces_forest r.faces) (rows_forest w))

-- the place of the variant
abbrev pub kind_in : {A : Type 0} → Term-F A → ℕ
kind_in (Term-F.Table rows) = 0
kind_in (Term-F.Sphere m) = 1
kind_in (Term-F.Product a b) = 2
kind_in (Term-F.Suspension a) = 3
kind_in Term-F.KZ1 = 4
kind_in (Term-F.Bundle rows values) = 5
kind_in (Term-F.Loop a) = 6
kind_in (Term-F.Path a) = 7

-- what is compared within a kind, from the forests of the parts
abbrev pub contents_in : Term-F Forest → Forest
contents_in (Term-F.Table rows) = rows_forest rows
contents_in (Term-F.Sphere m) = number m end
contents_in (Term-F.Product a b) = item (pos 0) a (item (pos 0) b end)
contents_in (Term-F.Suspension a) = a
contents_in Term-F.KZ1 = end
contents_in (Term-F.Bundle rows values) = item (pos 0) (rows_forest rows) (ints_forest values)
contents_in (Term-F.Loop a) = a
contents_in (Term-F.Path a) = a

abbrev pub forest_step : Term-F Forest → Forest
forest_step x = number (kind_in x) (contents_in x)

unfoldable pub forest : Term → Forest
forest t = fold-Term Forest forest_step t

abbrev pub kind_of : Term → ℕ
kind_of t = kind_in (out-Term t)

abbrev pub term_cmp : Term → Term → Ordering
term_cmp = on forest forest_cmp

-- of tables alone: row by row
abbrev pub table_cmp : List Row → List Row → Ordering
table_cmp = on rows_forest forest_cmp

-- ---- the laws of the comparisons

pub term_total : IsTotalOrder term_cmp
term_total = on_total forest forest_total

pub term_agrees : Agrees (as_partial_cmp term_cmp) term_cmp
term_agrees t u = refl

pub term_ties : (t u : Term) → eq_by_cmp term_cmp t u ≡ eq_by_cmp term_cmp t u
term_ties t u = refl

pub term_po : IsPartialOrder (eq_by_cmp term_cmp) (as_partial_cmp term_cmp)
term_po = partial_order_from_total term_total

pub term_equiv : IsEquivalence (eq_by_cmp term_cmp)
term_equiv = eq_by_cmp_equiv term_total

pub term_per : IsPartialEquivalence (eq_by_cmp term_cmp)
term_per = partial_equiv_from_equiv term_equiv

-- ---- the same of tables

pub table_total : IsTotalOrder table_cmp
table_total = on_total rows_forest forest_total

pub table_agrees : Agrees (as_partial_cmp table_cmp) table_cmp
table_agrees t u = refl

pub table_ties : (t u : List Row) → eq_by_cmp table_cmp t u ≡ eq_by_cmp table_cmp t u
table_ties t u = refl

pub table_po : IsPartialOrder (eq_by_cmp table_cmp) (as_partial_cmp table_cmp)
table_po = partial_order_from_total table_total

pub table_equiv : IsEquivalence (eq_by_cmp table_cmp)
table_equiv = eq_by_cmp_equiv table_total

pub table_per : IsPartialEquivalence (eq_by_cmp table_cmp)
table_per = partial_equiv_from_equiv table_equiv
