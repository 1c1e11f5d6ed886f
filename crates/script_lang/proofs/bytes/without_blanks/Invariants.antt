use Rattle.std.proofs.Common.{◌≡◌, length}
use Rattle.script_lang.specs.Scans.{after_blanks}
use Rattle.script_lang.proofs.bytes.without_blanks.Given as goal

abbrev pub invariant-loop-rest : goal.invariant-loop-rest
invariant-loop-rest l = after_blanks l.rest ≡ after_blanks l.bytes

abbrev pub decreases-loop-rest : goal.decreases-loop-rest
decreases-loop-rest l = length l.rest
