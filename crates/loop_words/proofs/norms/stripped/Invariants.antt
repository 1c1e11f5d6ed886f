use Rattle.std.proofs.Common.{take}
use Rattle.loop_words.specs.WordNorms.{AreStripped}
use Rattle.loop_words.proofs.norms.stripped.Given as goal

abbrev pub invariant-loop-letter : goal.invariant-loop-letter
invariant-loop-letter l = AreStripped l.shared.mask (take l.letter-index l.fn.letters) l.word
