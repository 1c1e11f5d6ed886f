use Rattle.std.proofs.Common.{◌≡◌, ◌+◌, All, length, take}
use Rattle.cells.specs.Small.{small_cmp}
use Rattle.fp_field.specs.Field.{number}
use Rattle.elim_fp.specs.Rows.{vectors_of, IsRow}
use Rattle.homology_rules.specs.CycleVectors.{kernel_rows, small_chains}
use Rattle.homology_rules.proofs.rows.kernel_rows_of.Given as goal

abbrev pub invariant-loop-i : goal.invariant-loop-i
invariant-loop-i l = record {
  each : All (IsRow l.p (length l.cells + length l.chains)) l.rows;
  rows : vectors_of l.rows ≡ kernel_rows small_cmp (number l.p) l.cells l.count 0 (take l.i l.marks) (small_chains (take l.i l.chains));
}
