use Rattle.std.proofs.Common.{◌≡◌, ◌++◌, take}
use Rattle.reply_text.specs.Text.{numbers_text}
use Rattle.reply_text.proofs.list_texts.push_numbers.Given as goal

abbrev pub invariant-loop-n : goal.invariant-loop-n
invariant-loop-n l = l.out ≡ l.initial.out ++ numbers_text (take l.n-index l.n-items)
