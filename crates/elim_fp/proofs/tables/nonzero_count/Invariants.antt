use Rattle.std.proofs.Common.{◌≡◌, ◌+◌, ◌≤◌, length, drop}
use Rattle.elim_fp.specs.Tables.{leading_rows}
use Rattle.elim_fp.proofs.tables.nonzero_count.Given as goal

abbrev pub invariant-loop-row : goal.invariant-loop-row
invariant-loop-row l = record {
  most : l.count ≤ l.row-index;
  sum : l.count + length (leading_rows l.width (drop l.row-index l.table)) ≡ length (leading_rows l.width l.table);
}
