use Rattle.std.proofs.Common.{◌≡◌, ◌≤◌, length, drop}
use Rattle.loop_words.specs.LetterWords.{inverse}
use Rattle.loop_words.proofs.groups.word_inv.Given as goal

abbrev pub invariant-loop-left : goal.invariant-loop-left
invariant-loop-left l = record {
  within : l.left ≤ length l.letters;
  turned : l.turned ≡ inverse (drop l.left l.letters);
}

abbrev pub decreases-loop-left : goal.decreases-loop-left
decreases-loop-left l = l.left
