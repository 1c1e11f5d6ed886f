use Rattle.std.proofs.Common.{◌≡◌, ◌-◌, false}
use Rattle.kernel_run.specs.Forcing.{IsKept}
use Rattle.kernel_run.proofs.Settling.{CourseSettled}
use Rattle.kernel_run.proofs.input.answer_input.Given as goal

abbrev pub invariant-loop-read : goal.invariant-loop-read
invariant-loop-read g l = record {
  course : CourseSettled (g.P.Port.state l.fn.port) (g.P.Port.state l.port) l.session.state l.line l.report l.read
      (g.M.Memo.seat l.fn.answerer.engine.memo.now) g.M.Memo.shard (g.M.Memo.fronts l.fn.answerer.engine.memo.now) (g.M.Memo.fronts l.answerer.engine.memo.now);
  open_still : l.session.is_ended ≡ false;
  kept : IsKept g.M.Memo.seat g.M.Memo.shard g.M.Memo.fronts g.M.Memo.origin l.fn.answerer.engine.rules.now l.answerer.engine.rules.now
      l.fn.answerer.engine.memo.ghost_name l.answerer.engine.memo.ghost_name l.fn.answerer.engine.memo.now l.answerer.engine.memo.now
      l.fn.answerer.steps.now l.answerer.steps.now;
}

abbrev pub decreases-loop-read : goal.decreases-loop-read
decreases-loop-read g l = 16777217 - l.read
