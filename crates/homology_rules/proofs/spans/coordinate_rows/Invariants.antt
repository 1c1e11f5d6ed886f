use Rattle.std.proofs.Common.{◌≡◌, All, length, map, take}
use Rattle.cells.specs.Small.{small_cmp}
use Rattle.fp_field.specs.Field.{number}
use Rattle.elim_fp.specs.Rows.{vectors_of, IsRow}
use Rattle.homology_rules.specs.CycleVectors.{coordinates_over, small_chains}
use Rattle.homology_rules.proofs.spans.coordinate_rows.Given as goal

abbrev pub invariant-loop-chain : goal.invariant-loop-chain
invariant-loop-chain l = record {
  each : All (IsRow l.p (length l.cells)) l.rows.items;
  rows : vectors_of l.rows.items ≡ map (λ d. coordinates_over small_cmp (number l.p) l.cells d) (small_chains (take l.chain-index l.chains));
}
