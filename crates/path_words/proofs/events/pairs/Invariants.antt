use Rattle.path_words.proofs.MaskTests.{Counted}
use Rattle.path_words.proofs.events.pairs.Given as goal

abbrev pub invariant-loop-j : goal.invariant-loop-j
invariant-loop-j l = Counted l.w.left.mask l.w.right.mask l.j l.count
