use Rattle.std.proofs.Common.{◌≡◌, drop}
use Rattle.kernel_run.specs.Batch.{ends_of}
use Rattle.kernel_run.specs.Jobs.{reports_of}
use Rattle.kernel_run.specs.Words.{has_code}
use Rattle.kernel_run.proofs.status.has_code.Given as goal

abbrev pub invariant-loop-i : goal.invariant-loop-i
invariant-loop-i g l = has_code l.code (ends_of (reports_of l.jobs)) ≡ has_code l.code (ends_of (reports_of (drop l.i l.jobs)))
