use Rattle.std.proofs.Common.{◌≡◌, ◌++◌, take}
use Rattle.twist_rules.specs.PairBases.{cell_pairs}
use Rattle.twist_rules.proofs.small_pairs.push_pairs.Given as goal

abbrev pub invariant-loop-x : goal.invariant-loop-x
invariant-loop-x l = l.pairs ≡ l.initial.pairs ++ cell_pairs (take l.x-index l.xs) l.ys
