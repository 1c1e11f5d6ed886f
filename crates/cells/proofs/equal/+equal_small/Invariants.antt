use Rattle.std.proofs.Common.{◌≡◌, drop}
use Rattle.std.specs.Ordering.{eq_by_cmp}
use Rattle.std.specs.Cmp.Lexicographic.{pointwise}
use Rattle.cells.specs.Small.{small_cmp}
use Rattle.cells.proofs.equal.+equal_small.Given as goal

abbrev pub invariant-same_smalls-loop-i : goal.invariant-same_smalls-loop-i
invariant-same_smalls-loop-i l = pointwise (eq_by_cmp small_cmp) (drop l.i l.fn.v) (drop l.i l.fn.w) ≡ pointwise (eq_by_cmp small_cmp) l.fn.v l.fn.w
