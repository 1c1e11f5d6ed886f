use Rattle.std.proofs.Common.{arith}
use Rattle.reply_text.specs.CellText.{term_text}
use Rattle.reply_text.specs.Spaces.{printed_space}
use Rattle.reply_text.proofs.SpacedTexts.{next_spaced, not_first}
use Rattle.reply_text.proofs.chain_texts.push_terms.Goals as goal

pub loop-c-preserved : goal.loop-c-preserved
loop-c-preserved c = (
  next_spaced (λ t. term_text (printed_space c.args.space) t.0 t.1.value) c.args.terms.now c.loop-c.c-index _ c.loop-c-item.result c.loop-c.is_first _ _ _ _
      (omega arith) c.loop-c-item.is (omega arith) c.loop-c.invariant.1 c.loop-c.invariant.0 c.in_ok-push_gap.ensures c.in_ok-push_term.ensures,
  not_first c.loop-c.c-index _ (omega arith),
)
