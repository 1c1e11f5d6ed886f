use Rattle.std.proofs.Common.{◌≡◌, ◌+◌, All, take, length}
use Rattle.echelons.proofs.Halves.{side, units}
use Rattle.elim_fp.specs.Rows.{vectors_of, IsRow}
use Rattle.elim_fp.proofs.kernels.beside_units.Given as goal

abbrev pub invariant-loop-place : goal.invariant-loop-place
invariant-loop-place l = record {
  rows : vectors_of l.marked.items ≡ side (take l.place (vectors_of l.rows)) (take l.place (units (length l.rows)));
  each : All (IsRow l.fn.p (l.fn.width + length l.rows)) l.marked.items;
}
