use Rattle.std.proofs.Common.{◌≤◌, ◌↔◌, length, drop}
use Rattle.fp_field.specs.Field.{number}
use Rattle.echelons.specs.Echelon.{Vector, IsReducedEchelon, IsCombination}
use Rattle.elim_fp.specs.Rows.{vectors_of}
use Rattle.elim_fp.specs.Tables.{IsTable, nonzero}
use Rattle.elim_fp.proofs.tables.reduce_table.Given as goal

abbrev pub invariant-loop-place : goal.invariant-loop-place
invariant-loop-place l = record {
  within : l.place ≤ length l.fn.table.items;
  table : IsTable l.fn.p (length l.fn.table.items) l.table.items;
  echelon : IsReducedEchelon (number l.fn.p) (length l.fn.table.items) (nonzero (length l.fn.table.items) (drop l.place (vectors_of l.table.items)));
  span : (x : Vector) → IsCombination (number l.fn.p) (length l.fn.table.items) (vectors_of l.table.items) x ↔ IsCombination (number l.fn.p) (length l.fn.table.items) (vectors_of l.fn.table.items) x;
}

abbrev pub decreases-loop-place : goal.decreases-loop-place
decreases-loop-place l = l.place
