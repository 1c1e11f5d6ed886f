use Rattle.std.proofs.Common.{◌≡◌}
use Rattle.rule_book.proofs.RowCells.{cells_before}
use Rattle.rule_book.proofs.rows.rows_of_dim.Given as goal

abbrev pub invariant-loop-i : goal.invariant-loop-i
invariant-loop-i l = (l.cells ≡ cells_before l.t l.n l.i) × (l.rows ≡ l.t)
