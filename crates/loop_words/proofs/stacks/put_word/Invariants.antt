use Rattle.std.proofs.Common.{◌≡◌, ◌≤◌, length, drop, reverse}
use Rattle.loop_words.specs.LetterWords.{word_before}
use Rattle.loop_words.proofs.stacks.put_word.Given as goal

abbrev pub invariant-loop-left : goal.invariant-loop-left
invariant-loop-left l = record {
  within : l.left ≤ length l.fn.word;
  put : reverse l.stack.items ≡ word_before (drop l.left l.fn.word) (reverse l.fn.stack.items);
}

abbrev pub decreases-loop-left : goal.decreases-loop-left
decreases-loop-left l = l.left
