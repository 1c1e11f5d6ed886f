use Rattle.std.proofs.Common.{◌≡◌, ◌++◌, take}
use Rattle.reply_text.specs.Text.{cycles_text}
use Rattle.reply_text.specs.Spaces.{printed_space}
use Rattle.reply_text.proofs.chain_texts.push_cycles.Given as goal

abbrev pub invariant-loop-cycle : goal.invariant-loop-cycle
invariant-loop-cycle l = l.out ≡ l.initial.out ++ cycles_text (printed_space l.space) (take l.cycle-index l.cycle-items)
