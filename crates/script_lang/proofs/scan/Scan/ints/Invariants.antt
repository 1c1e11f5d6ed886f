use Rattle.std.proofs.Common.{◌≡◌, length}
use Rattle.script_lang.specs.Readings.{until_at}
use Rattle.script_lang.specs.Scans.{int_in}
use Rattle.script_lang.proofs.Loops.{with_front}
use Rattle.script_lang.proofs.scan.Scan.ints.Given as goal

abbrev pub invariant-loop-ints : goal.invariant-loop-ints
invariant-loop-ints l = with_front l.ints (until_at int_in l.self.rest.now) ≡ with_front l.initial.ints (until_at int_in l.initial.self.rest.now)

abbrev pub decreases-loop-ints : goal.decreases-loop-ints
decreases-loop-ints l = length l.self.rest.now
