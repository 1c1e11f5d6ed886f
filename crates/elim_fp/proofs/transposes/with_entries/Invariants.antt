use Rattle.std.proofs.Common.{◌≡◌, ◌≢◌, ℕ, All, length}
use Rattle.fp_field.specs.Field.{number}
use Rattle.echelons.proofs.Columns.{column}
use Rattle.elim_fp.specs.Rows.{vectors_of, IsRow}
use Rattle.elim_fp.proofs.Entries.{Added}
use Rattle.elim_fp.proofs.transposes.with_entries.Given as goal

abbrev pub invariant-loop-at : goal.invariant-loop-at
invariant-loop-at l = record {
  count : length l.sums.items ≡ length l.fn.rows.items;
  each : All (IsRow l.row.prime l.fn.height) l.sums.items;
  here : Added (number l.row.prime) l.at-items l.width (length l.fn.rows.items) 0 (column (vectors_of l.fn.rows.items) l.place) l.at-index (column (vectors_of l.sums.items) l.place);
  others : (i : ℕ) → i ≢ l.place → column (vectors_of l.sums.items) i ≡ column (vectors_of l.fn.rows.items) i;
}
