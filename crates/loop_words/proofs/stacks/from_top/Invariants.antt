use Rattle.std.proofs.Common.{◌≡◌, ◌++◌, reverse, vec_len}
use Rattle.loop_words.proofs.stacks.from_top.Given as goal

abbrev pub invariant-loop-letter : goal.invariant-loop-letter
invariant-loop-letter l = l.word ++ reverse l.stack.items ≡ reverse l.fn.stack.items

abbrev pub decreases-loop-letter : goal.decreases-loop-letter
decreases-loop-letter l = vec_len l.stack
