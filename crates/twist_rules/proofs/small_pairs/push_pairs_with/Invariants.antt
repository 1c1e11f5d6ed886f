use Rattle.std.proofs.Common.{◌≡◌, ◌++◌, take}
use Rattle.twist_rules.specs.PairBases.{pairs_with}
use Rattle.twist_rules.proofs.small_pairs.push_pairs_with.Given as goal

abbrev pub invariant-loop-y : goal.invariant-loop-y
invariant-loop-y l = l.pairs ≡ l.initial.pairs ++ pairs_with l.x (take l.y-index l.ys)
