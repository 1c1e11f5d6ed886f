use Rattle.std.proofs.Common.{◌≡◌, ◌≢◌, ◌∙◌, arith, rules}
use Rattle.kernel_run.specs.declared.report.End.TheVariants.{Finished}
use Rattle.kernel_run.proofs.Closing.{piece_starts, piece_goes_on, piece_stops, piece_answers, piece_wants, state_ends, open_ends, one_reply_more, one_error_more, reads_nothing}
use Rattle.kernel_run.proofs.Forced.{kept_self, kept_both, ready_after}
use Rattle.kernel_run.proofs.Settling.{keys_start, keys_go_on, keys_end, keys_of_line, keys_of_none}
use Rattle.kernel_run.proofs.pieces.answer_piece.Goals as goal

pub loop-front-init : goal.loop-front-init
loop-front-init g c = record {
  sofar = piece_starts _ _ _ _ _ c.requires.end;
  open_still = c.requires.session;
  kept = kept_self g.M.Memo.seat g.M.Memo.shard g.M.Memo.fronts g.M.Memo.origin _ _ _ _;
  keys = keys_start _ _ _ _;
}

pub close_line-report-requires-clause-ready : goal.close_line-report-requires-clause-ready
close_line-report-requires-clause-ready g c =
    ready_after g.M.Memo.seat g.M.Memo.shard g.M.Memo.fronts g.M.Memo.origin g.R.RuleSet.treats _ _ _ _ _ _ _ _ c.requires.ready c.loop-front.invariant.kept

pub loop-front-preserved : goal.loop-front-preserved
loop-front-preserved g c =
    let end : c.close_line-report.result.end ≡ Finished = search rules in
    let e = c.close_line-report.ensures in
    let after = e.session end in
    let i = c.loop-front.invariant in record {
      sofar = piece_goes_on _ _ _ _ _ _ _ _ _ _ _ _ _ _ i.sofar c.in-Some.ensures e.answer end _ after.state _ (e.line end);
      open_still = after.open_still;
      kept = kept_both g.M.Memo.seat g.M.Memo.shard g.M.Memo.fronts g.M.Memo.origin _ _ _ _ _ _ _ _ _ _ _ _ i.kept e.kept;
      keys = keys_go_on g.M.Memo.seat g.M.Memo.shard g.M.Memo.fronts g.M.Memo.origin _ _ _ _ _ _ _ _ _ _ _ i.keys i.kept.ran e.kept.ran
          (keys_of_line _ _ _ _ _ _ _ c.in-Some.ensures after.state (e.line end)) (e.settled end);
    }

pub returns-then-ne-clause-answer : goal.returns-then-ne-clause-answer
returns-then-ne-clause-answer g c =
    let not : c.close_line-report.result.end ≢ Finished = search rules in
    piece_stops _ _ _ _ _ _ _ _ _ _ _ _ _ _ c.loop-front.invariant.sofar c.in-Some.ensures c.close_line-report.ensures.answer not

pub returns-then-ne-clause-reads : goal.returns-then-ne-clause-reads
returns-then-ne-clause-reads g c = reads_nothing _ _ _ c.loop-front.invariant.sofar.reads c.close_line-report.ensures.answer.reads

pub returns-then-ne-clause-replies : goal.returns-then-ne-clause-replies
returns-then-ne-clause-replies g c =
    omega (arith, c.loop-front.invariant.sofar.room, c.in-Some.ensures.less, one_reply_more _ _ _ _ _ c.close_line-report.ensures.answer)

pub returns-then-ne-clause-errors : goal.returns-then-ne-clause-errors
returns-then-ne-clause-errors g c =
    omega (arith, c.loop-front.invariant.sofar.error_room, c.in-Some.ensures.less, one_error_more _ _ _ _ _ c.close_line-report.ensures.answer)

pub returns-then-ne-clause-kept : goal.returns-then-ne-clause-kept
returns-then-ne-clause-kept g c =
    kept_both g.M.Memo.seat g.M.Memo.shard g.M.Memo.fronts g.M.Memo.origin _ _ _ _ _ _ _ _ _ _ _ _ c.loop-front.invariant.kept c.close_line-report.ensures.kept

pub returns-in-Ok-clause-answer : goal.returns-in-Ok-clause-answer
returns-in-Ok-clause-answer g c = piece_answers _ _ _ _ _ _ _ _ _ _ c.loop-front.invariant.sofar c.in_default.ensures

pub returns-in-Ok-clause-session : goal.returns-in-Ok-clause-session
returns-in-Ok-clause-session g c = λ end. record { state = state_ends _ _ _ _ _ _ _ _ _ _ c.loop-front.invariant.sofar c.in_default.ensures; open_still = c.loop-front.invariant.open_still }

pub returns-in-Ok-clause-line : goal.returns-in-Ok-clause-line
returns-in-Ok-clause-line g c = λ end. c.in-Ok.ensures.pushed ∙ open_ends _ _ _ _ _ _ _ _ _ _ c.loop-front.invariant.sofar c.in_default.ensures

pub returns-in-Ok-clause-settled : goal.returns-in-Ok-clause-settled
returns-in-Ok-clause-settled g c = λ end. keys_end _ _ _ _ _ _ c.loop-front.invariant.keys (keys_of_none _ _ _ c.in_default.ensures)

pub returns-in-Err-clause-answer : goal.returns-in-Err-clause-answer
returns-in-Err-clause-answer g c = piece_wants _ _ _ _ _ _ _ _ _ _ c.loop-front.invariant.sofar c.in_default.ensures
