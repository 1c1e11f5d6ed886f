use Rattle.std.proofs.Common.{◌≡◌, ◌++◌, take}
use Rattle.cells.specs.Small.{small_cmp}
use Rattle.fp_field.specs.Field.{number}
use Rattle.chain_core.specs.Formal.{numbers}
use Rattle.echelons.specs.Echelon.{zeros}
use Rattle.homology_rules.specs.CycleVectors.{coordinates_over}
use Rattle.homology_rules.proofs.rows.coordinate_row.Given as goal

abbrev pub invariant-loop-y : goal.invariant-loop-y
invariant-loop-y l = record {
  prime : l.row.prime ≡ l.fn.p;
  values : l.row.values ≡ coordinates_over small_cmp (number l.fn.p) l.cells (numbers (take l.y-index l.y-items)) ++ zeros l.more;
}
