use Rattle.std.proofs.Common.{◌≡◌, ℕ, ◌<◌, false}
use Rattle.term_lang.specs.Rows.{rows_of}
use Rattle.term_lang.specs.TermFaults.{is_bad_row}
use Rattle.term_lang.proofs.check.check_values.Given as goal

abbrev pub invariant-loop-r : goal.invariant-loop-r
invariant-loop-r l = (k : ℕ) → k < l.r → is_bad_row (rows_of l.base) l.values k ≡ false
