use Rattle.std.proofs.Common.{◌++◌, sym, subst}
use Rattle.std.proofs.lemmas.Result.{IfOk-weaker}
use Rattle.loop_words.specs.LetterWords.{IsReduced}
use Rattle.loop_words.proofs.OnTop.{product_on_top}
use Rattle.loop_words.proofs.CodeGroup.{reduced_again}
use Rattle.loop_words.proofs.groups.word_mul.Goals as goal

pub returns-clause-product : goal.returns-clause-product
returns-clause-product c =
    product_on_top c.args.a.now c.args.b.now c.as_slice-2.result.now c.as_slice.result.now c.new-stack.result.items c.put_word.new.stack.items
    c.put_word-2.new.stack.items c.from_top.result c.from_top.ensures c.as_slice-2.ensures c.as_slice.ensures c.new-stack.ensures.items
    c.in_ok-put_word-2.ensures c.in_ok-put_word.ensures

pub returns-clause-reduced : goal.returns-clause-reduced
returns-clause-reduced c =
    IfOk-weaker c.from_top.result _ _ (λ w e. subst IsReduced (sym e) (reduced_again (c.args.a.now ++ c.args.b.now)))
    (product_on_top c.args.a.now c.args.b.now c.as_slice-2.result.now c.as_slice.result.now c.new-stack.result.items c.put_word.new.stack.items
    c.put_word-2.new.stack.items c.from_top.result c.from_top.ensures c.as_slice-2.ensures c.as_slice.ensures c.new-stack.ensures.items
    c.in_ok-put_word-2.ensures c.in_ok-put_word.ensures)
