use Rattle.std.proofs.Common.{◌≡◌, length}
use Rattle.script_lang.specs.Readings.{until_at}
use Rattle.script_lang.specs.Lines.{part_at, pair_at}
use Rattle.script_lang.proofs.Loops.{with_front}
use Rattle.script_lang.proofs.reader.Reader.pairs.Given as goal

abbrev pub invariant-loop-pairs : goal.invariant-loop-pairs
invariant-loop-pairs l = with_front l.pairs (until_at (part_at pair_at) l.self.rest.now) ≡ with_front l.initial.pairs (until_at (part_at pair_at) l.initial.self.rest.now)

abbrev pub decreases-loop-pairs : goal.decreases-loop-pairs
decreases-loop-pairs l = length l.self.rest.now
