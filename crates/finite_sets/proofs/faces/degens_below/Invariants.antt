use Rattle.finite_sets.proofs.WordTests.{Reading}
use Rattle.finite_sets.proofs.faces.degens_below.Given as goal

abbrev pub invariant-loop-j : goal.invariant-loop-j
invariant-loop-j l = Reading l.fn.bound l.fn.word l.mask l.above l.j-index
