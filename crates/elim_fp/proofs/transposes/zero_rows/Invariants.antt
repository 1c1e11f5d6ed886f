use Rattle.std.proofs.Common.{◌≡◌, ◌≤◌, ◌-◌, All, length}
use Rattle.echelons.specs.Echelon.{zeros}
use Rattle.elim_fp.specs.Rows.{IsRow}
use Rattle.elim_fp.proofs.transposes.zero_rows.Given as goal

abbrev pub invariant-loop-alloc : goal.invariant-loop-alloc
invariant-loop-alloc l = record {
  within : length l.rows.items ≤ l.count;
  each : All (IsRow l.p l.width) l.rows.items;
  zero : All (λ r. r.values ≡ zeros l.width) l.rows.items;
}

abbrev pub decreases-loop-alloc : goal.decreases-loop-alloc
decreases-loop-alloc l = l.count - length l.rows.items
