use Rattle.std.proofs.Common.{length, inl, inr, arith}
use Rattle.kernel_run.specs.Words.{usage}
use Rattle.kernel_run.proofs.kernel.show_usage.Goals as goal

pub returns-in-Ok-clause-shows : goal.returns-in-Ok-clause-shows
returns-in-Ok-clause-shows g c = record { reads = c.write_text.ensures.reads; count = length usage; written = c.in-Ok.ensures.whole.written; short = inl (omega arith) }

pub returns-in-Err-clause-shows : goal.returns-in-Err-clause-shows
returns-in-Err-clause-shows g c = let p = c.in-Err.ensures.part in record { reads = c.write_text.ensures.reads; count = p.count; written = p.written; short = inr p.write_faults }
