use Rattle.std.proofs.Common.{subst}
use Rattle.force_engine.specs.Fronts.{Between}
use Rattle.kernel_run.specs.Progress.{Answered}
use Rattle.kernel_run.specs.Settled.{AreSettled}
use Rattle.kernel_run.proofs.Kept.{text_kept, state_kept, keys_kept}
use Rattle.kernel_run.proofs.pieces.close_line.Goals as goal

pub returns-clause-answer : goal.returns-clause-answer
returns-clause-answer g c =
    subst (λ t. Answered (g.P.Port.state c.args.port.now) (g.P.Port.state c.answer_line-report.new.port) t c.args.report c.answer_line-report.result)
    (text_kept c.args.session.now.state c.bytes.result.now _ _ c.bytes.ensures c.in-Ok.ensures.pushed) c.answer_line-report.ensures.answer

pub returns-clause-session : goal.returns-clause-session
returns-clause-session g c = λ end.
    let after = c.answer_line-report.ensures.session end in
    record { state = state_kept c.args.session.now.state c.bytes.result.now _ _ c.bytes.ensures c.in-Ok.ensures.pushed _ after.state; open_still = after.open_still }

pub returns-clause-settled : goal.returns-clause-settled
returns-clause-settled g c = λ end.
    subst (λ ks. Between (AreSettled (g.M.Memo.seat c.args.answerer.now.engine.memo.now) g.M.Memo.shard ks) (g.M.Memo.fronts c.args.answerer.now.engine.memo.now) (g.M.Memo.fronts c.answer_line-report.new.answerer.engine.memo.now))
    (keys_kept c.args.session.now.state c.bytes.result.now _ _ c.bytes.ensures c.in-Ok.ensures.pushed) (c.answer_line-report.ensures.settled end)
