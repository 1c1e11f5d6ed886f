use Rattle.std.proofs.Common.{◌≡◌, drop}
use Rattle.kernel_run.specs.Words.{are_names}
use Rattle.kernel_run.proofs.words.are_names.Given as goal

abbrev pub invariant-loop-i : goal.invariant-loop-i
invariant-loop-i l = are_names (drop 1 l.words) ≡ are_names (drop l.i l.words)
