use Rattle.std.proofs.Common.{◌≡◌, ◌*◌, ◌++◌, drop}
use Rattle.twist_rules.specs.PairBases.{pairs_held}
use Rattle.twist_rules.proofs.small_pairs.pairs_in.Given as goal

abbrev pub invariant-loop-i : goal.invariant-loop-i
invariant-loop-i l = l.pairs ++ pairs_held (drop (2 * l.i) l.cells) ≡ pairs_held l.cells
