use Rattle.std.proofs.Common.{◌≡◌, drop}
use Rattle.kernel_run.specs.Words.{stands_in}
use Rattle.kernel_run.proofs.words.stands_behind.Given as goal

abbrev pub invariant-loop-k : goal.invariant-loop-k
invariant-loop-k l = stands_in l.word (drop l.fn.from l.words) ≡ stands_in l.word (drop l.k l.words)
