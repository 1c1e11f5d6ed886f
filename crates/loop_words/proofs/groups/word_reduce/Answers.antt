use Rattle.std.proofs.Common.{sym, subst}
use Rattle.std.proofs.lemmas.Result.{IfOk-weaker}
use Rattle.loop_words.specs.LetterWords.{IsReduced}
use Rattle.loop_words.proofs.OnTop.{reduced_on_top}
use Rattle.loop_words.proofs.CodeGroup.{reduced_again}
use Rattle.loop_words.proofs.groups.word_reduce.Goals as goal

pub returns-clause-reduced : goal.returns-clause-reduced
returns-clause-reduced c =
    IfOk-weaker c.from_top.result _ _ (λ w e. subst IsReduced (sym e) (reduced_again c.args.w.now))
    (reduced_on_top c.args.w.now c.as_slice.result.now c.new-stack.result.items c.put_word.new.stack.items c.from_top.result c.from_top.ensures
    c.as_slice.ensures c.new-stack.ensures.items c.in_ok-put_word.ensures)
