use Rattle.std.proofs.Common.{◌≡◌, length}
use Rattle.script_lang.specs.Readings.{until_at}
use Rattle.script_lang.specs.Lines.{word_at}
use Rattle.script_lang.specs.Words.{face_of}
use Rattle.script_lang.proofs.Loops.{with_front}
use Rattle.script_lang.proofs.reader.Reader.faces.Given as goal

abbrev pub invariant-loop-faces : goal.invariant-loop-faces
invariant-loop-faces l = with_front l.faces (until_at (word_at face_of) l.self.rest.now) ≡ with_front l.initial.faces (until_at (word_at face_of) l.initial.self.rest.now)

abbrev pub decreases-loop-faces : goal.decreases-loop-faces
decreases-loop-faces l = length l.self.rest.now
