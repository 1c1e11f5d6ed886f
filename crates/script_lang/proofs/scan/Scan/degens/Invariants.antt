use Rattle.std.proofs.Common.{◌≡◌, length}
use Rattle.script_lang.specs.Readings.{until_at}
use Rattle.script_lang.specs.Scans.{degen_in}
use Rattle.script_lang.proofs.Loops.{with_front}
use Rattle.script_lang.proofs.scan.Scan.degens.Given as goal

abbrev pub invariant-loop-degens : goal.invariant-loop-degens
invariant-loop-degens l = with_front l.degens (until_at degen_in l.self.rest.now) ≡ with_front l.initial.degens (until_at degen_in l.initial.self.rest.now)

abbrev pub decreases-loop-degens : goal.decreases-loop-degens
decreases-loop-degens l = length l.self.rest.now
