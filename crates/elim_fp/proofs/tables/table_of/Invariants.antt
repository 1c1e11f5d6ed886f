use Rattle.std.proofs.Common.{◌≤◌, ◌↔◌, length, drop}
use Rattle.fp_field.specs.Field.{number}
use Rattle.echelons.specs.Echelon.{Vector, IsCombination}
use Rattle.elim_fp.specs.Rows.{vectors_of}
use Rattle.elim_fp.specs.Tables.{IsTable}
use Rattle.elim_fp.proofs.tables.table_of.Given as goal

abbrev pub invariant-loop-left : goal.invariant-loop-left
invariant-loop-left l = record {
  within : l.left ≤ length l.rows;
  table : IsTable l.fn.p l.fn.width l.table.items;
  span : (x : Vector) → IsCombination (number l.fn.p) l.fn.width (vectors_of l.table.items) x ↔ IsCombination (number l.fn.p) l.fn.width (drop l.left (vectors_of l.rows)) x;
}

abbrev pub decreases-loop-left : goal.decreases-loop-left
decreases-loop-left l = l.left
