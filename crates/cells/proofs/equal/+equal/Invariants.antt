use Rattle.std.proofs.Common.{◌≡◌, drop}
use Rattle.std.specs.Ordering.{eq_by_cmp}
use Rattle.std.specs.Cmp.Lexicographic.{pointwise}
use Rattle.cells.specs.Order.{letter_cmp}
use Rattle.cells.proofs.equal.+equal.Given as goal

abbrev pub invariant-same_words-loop-i : goal.invariant-same_words-loop-i
invariant-same_words-loop-i l = pointwise (eq_by_cmp letter_cmp) (drop l.i l.fn.v) (drop l.i l.fn.w) ≡ pointwise (eq_by_cmp letter_cmp) l.fn.v l.fn.w
