use Rattle.std.proofs.Common.{◌≡◌, ◌<◌, ℕ, false}
use Rattle.term_lang.specs.Rows.{rows_of}
use Rattle.twist_maps.specs.Values.{is_open}
use Rattle.twist_maps.proofs.checks.check_cocycle.Given as goal

abbrev pub invariant-loop-r : goal.invariant-loop-r
invariant-loop-r l = (k : ℕ) → k < l.r → is_open (rows_of l.base) l.values k ≡ false
