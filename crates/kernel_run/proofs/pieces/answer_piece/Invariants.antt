use Rattle.std.proofs.Common.{◌≡◌, false, length}
use Rattle.kernel_run.specs.Forcing.{IsKept}
use Rattle.kernel_run.specs.Pieces.{closed_lines}
use Rattle.kernel_run.specs.Settled.{keys_from}
use Rattle.kernel_run.proofs.Closing.{PieceSoFar}
use Rattle.kernel_run.proofs.Settling.{KeysSoFar}
use Rattle.kernel_run.proofs.pieces.answer_piece.Given as goal

abbrev pub invariant-loop-front : goal.invariant-loop-front
invariant-loop-front g l = record {
  sofar : PieceSoFar (g.P.Port.state l.fn.port) (g.P.Port.state l.port) l.fn.session.state l.fn.line l.piece l.session.state l.line l.rest l.fn.report l.report;
  open_still : l.session.is_ended ≡ false;
  kept : IsKept g.M.Memo.seat g.M.Memo.shard g.M.Memo.fronts g.M.Memo.origin l.fn.answerer.engine.rules.now l.answerer.engine.rules.now
      l.fn.answerer.engine.memo.ghost_name l.answerer.engine.memo.ghost_name l.fn.answerer.engine.memo.now l.answerer.engine.memo.now
      l.fn.answerer.steps.now l.answerer.steps.now;
  keys : KeysSoFar (g.M.Memo.seat l.fn.answerer.engine.memo.now) g.M.Memo.shard (g.M.Memo.fronts l.fn.answerer.engine.memo.now) (g.M.Memo.fronts l.answerer.engine.memo.now)
      (keys_from l.fn.session.state (closed_lines l.fn.line l.piece)) (keys_from l.session.state (closed_lines l.line l.rest));
}

abbrev pub decreases-loop-front : goal.decreases-loop-front
decreases-loop-front g l = length l.rest
