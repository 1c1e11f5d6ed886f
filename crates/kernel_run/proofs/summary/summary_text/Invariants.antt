use Rattle.std.proofs.Common.{◌≡◌, ◌+◌, ◌++◌, drop, string_bytes}
use Rattle.kernel_run.specs.Jobs.{reports_of}
use Rattle.kernel_run.specs.Summary.{summary}
use Rattle.kernel_run.proofs.summary.summary_text.Given as goal

abbrev pub invariant-loop-i : goal.invariant-loop-i
invariant-loop-i g l = summary (drop 1 l.words) (reports_of l.jobs) ≡ string_bytes l.text ++ summary (drop (l.i + 1) l.words) (reports_of (drop l.i l.jobs))
