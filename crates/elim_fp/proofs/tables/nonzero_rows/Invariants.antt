use Rattle.std.proofs.Common.{◌≡◌, ◌++◌, drop}
use Rattle.elim_fp.specs.Tables.{leading_rows}
use Rattle.elim_fp.proofs.tables.nonzero_rows.Given as goal

abbrev pub invariant-loop-row : goal.invariant-loop-row
invariant-loop-row l = l.rows.items ++ leading_rows l.width (drop l.row-index l.table) ≡ leading_rows l.width l.table
