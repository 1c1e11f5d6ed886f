-- Cells of one dimension and one kind, as they compare.
use Rattle.std.proofs.Common.{◌≡◌, ℕ, ◌==◌, true, sym, ◌∙◌, ap}
use Rattle.std.proofs.lemmas.Bool.Decides.{Decides-eqb}
use Rattle.std.proofs.lemmas.Cmp.{tied_itself, nat_cmp_total}
use Rattle.std.specs.Ordering.{nat_cmp, ordering_then}
use Rattle.std.specs.declared.cmp.Ordering.TheVariants.{Equal}
use Rattle.cells.specs.declared.cells.Cell.{Cell, out-Cell, out-roll-Cell}
use Rattle.cells.specs.declared.cells.Cell.TheVariants.{Row, rolls-Row}
use Rattle.cells.specs.declared.cells.Cell.TheOpen.{Cell-F}
use Rattle.cells.specs.Dim.{dim_of}
use Rattle.cells.specs.Order.{cell_cmp, kind_in, kind_of, kinds_cmp}
use Rattle.cells.specs.Laws.{cell_total}
use Rattle.cells.proofs.Dimensions.{dim-Row}
use Rattle.cells.proofs.Compared.{cell_cmp-then, rows}

pub eq_is : (a b : ℕ) → (a == b) ≡ true → a ≡ b
eq_is a b h = (Decides-eqb a b).0 h

-- by dimension and kind two such cells are alike
alike : (c d : Cell) → dim_of c ≡ dim_of d → kind_of c ≡ kind_of d → kinds_cmp c d ≡ Equal
alike c d e f =
    (λ i. ordering_then (nat_cmp (e i) (dim_of d)) (nat_cmp (f i) (kind_of d)))
    ∙ (λ i. ordering_then (tied_itself nat_cmp_total (dim_of d) i) (tied_itself nat_cmp_total (kind_of d) i))

kind-Row : (n r : ℕ) → kind_of (Row n r) ≡ 0
kind-Row n r = ap kind_in (ap out-Cell (sym (rolls-Row n r)) ∙ out-roll-Cell (Cell-F.Row n r))

pub rows_cmp : (n r s : ℕ) → cell_cmp (Row n r) (Row n s) ≡ nat_cmp r s
rows_cmp n r s =
    cell_cmp-then (Row n r) (Row n s)
    ∙ (λ i. ordering_then (alike (Row n r) (Row n s) (dim-Row n r ∙ sym (dim-Row n s)) (kind-Row n r ∙ sym (kind-Row n s)) i) (rows n n r s i))

pub cell_cmp-same : (c : Cell) → cell_cmp c c ≡ Equal
cell_cmp-same c = tied_itself cell_total c
