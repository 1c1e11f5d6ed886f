use Rattle.std.proofs.Common.{◌≡◌, length}
use Rattle.script_lang.specs.Readings.{until_at}
use Rattle.script_lang.specs.Lines.{part_at, row_at}
use Rattle.script_lang.proofs.Loops.{with_front}
use Rattle.script_lang.proofs.reader.Reader.rows.Given as goal

abbrev pub invariant-loop-rows : goal.invariant-loop-rows
invariant-loop-rows l = with_front l.rows (until_at (part_at row_at) l.self.rest.now) ≡ with_front l.initial.rows (until_at (part_at row_at) l.initial.self.rest.now)

abbrev pub decreases-loop-rows : goal.decreases-loop-rows
decreases-loop-rows l = length l.self.rest.now
