use Rattle.std.proofs.Common.{◌≡◌, ◌<◌, ◌≤◌, [], ℕ, All, length, get_or}
use Rattle.echelons.specs.Echelon.{zeros}
use Rattle.echelons.proofs.Columns.{column}
use Rattle.elim_fp.specs.Rows.{vectors_of, IsRow}
use Rattle.elim_fp.proofs.transposes.transpose.Given as goal

abbrev pub invariant-loop-place : goal.invariant-loop-place
invariant-loop-place l = record {
  count : length l.turned.items ≡ l.fn.width;
  each : All (IsRow l.fn.p (length l.rows)) l.turned.items;
  done : (i : ℕ) → i < l.place → column (vectors_of l.turned.items) i ≡ get_or (vectors_of l.rows) i [];
  left : (i : ℕ) → l.place ≤ i → column (vectors_of l.turned.items) i ≡ zeros l.fn.width;
}
