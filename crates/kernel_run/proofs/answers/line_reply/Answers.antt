use Rattle.kernel_run.proofs.Forced.{may_after, keeps_run, reply_settled}
use Rattle.kernel_run.proofs.answers.line_reply.Goals as goal

pub feed_line-requires : goal.feed_line-requires
feed_line-requires g c = record {
  answerer = λ ks t k all asked is. may_after g.M.Memo.seat g.M.Memo.shard g.M.Memo.fronts g.M.Memo.origin
      (λ z. z.engine.rules.now) (λ z. z.engine.memo.ghost_name) (λ z. z.engine.memo.now) (λ z. z.steps.now) g.R.RuleSet.treats ks _ t k c.requires.ready asked is;
}

pub returns-clause-kept : goal.returns-clause-kept
returns-clause-kept g c =
    let a = c.feed_line.ensures.asked in
    keeps_run g.M.Memo.seat g.M.Memo.shard g.M.Memo.fronts g.M.Memo.origin (λ z. z.engine.rules.now) (λ z. z.engine.memo.ghost_name) (λ z. z.engine.memo.now) (λ z. z.steps.now)
    a.asks _ _ a.asked

pub returns-clause-settled : goal.returns-clause-settled
returns-clause-settled g c =
    reply_settled g.M.Memo.seat g.M.Memo.shard g.M.Memo.fronts g.M.Memo.origin (λ z. z.engine.rules.now) (λ z. z.engine.memo.ghost_name) (λ z. z.engine.memo.now) (λ z. z.steps.now)
    c.feed_line.result _ _ _ c.feed_line.ensures.asked
