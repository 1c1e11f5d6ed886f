use Rattle.std.proofs.Common.{◌≡◌, length}
use Rattle.script_lang.specs.Readings.{until_at}
use Rattle.script_lang.specs.Lines.{part_at, term_at}
use Rattle.script_lang.proofs.Loops.{with_front}
use Rattle.script_lang.proofs.reader.Reader.terms.Given as goal

abbrev pub invariant-loop-terms : goal.invariant-loop-terms
invariant-loop-terms l = with_front l.terms (until_at (part_at term_at) l.self.rest.now) ≡ with_front l.initial.terms (until_at (part_at term_at) l.initial.self.rest.now)

abbrev pub decreases-loop-terms : goal.decreases-loop-terms
decreases-loop-terms l = length l.self.rest.now
