use Rattle.std.proofs.Common.{sym, subst, refl}
use Rattle.force_engine.specs.Fronts.{Between}
use Rattle.kernel_run.specs.Settled.{AreSettled}
use Rattle.kernel_run.proofs.Closing.{last_answers, last_written, no_reads, some_open, none_open}
use Rattle.kernel_run.proofs.Forced.{kept_self}
use Rattle.kernel_run.proofs.Settling.{keys_of_last, keys_of_no_last, no_keys}
use Rattle.kernel_run.proofs.pieces.answer_last.Goals as goal

pub returns-then-is_empty : goal.returns-then-is_empty
returns-then-is_empty g c = record {
  answer = last_written _ _ _ _ (none_open c.bytes.result.now _ c.is_empty.result c.is_empty.ensures c.if-is_empty.true c.bytes.ensures) c.requires.end;
  reads = no_reads _;
  kept = kept_self g.M.Memo.seat g.M.Memo.shard g.M.Memo.fronts g.M.Memo.origin _ _ _ _;
  settled = λ end. subst (λ ks. Between (AreSettled (g.M.Memo.seat c.args.answerer.now.engine.memo.now) g.M.Memo.shard ks) (g.M.Memo.fronts c.args.answerer.now.engine.memo.now) (g.M.Memo.fronts c.args.answerer.now.engine.memo.now))
      (sym (keys_of_no_last c.args.session.now.state c.args.line.now (none_open c.bytes.result.now _ c.is_empty.result c.is_empty.ensures c.if-is_empty.true c.bytes.ensures)))
      (no_keys (g.M.Memo.seat c.args.answerer.now.engine.memo.now) g.M.Memo.shard (g.M.Memo.fronts c.args.answerer.now.engine.memo.now));
}

pub returns-else-is_empty : goal.returns-else-is_empty
returns-else-is_empty g c = record {
  answer = last_answers _ _ _ _ _ _ _ (some_open c.bytes.result.now _ c.is_empty.result c.is_empty.ensures c.if-is_empty.false c.bytes.ensures) refl c.close_line.ensures.answer;
  reads = c.close_line.ensures.answer.reads;
  kept = c.close_line.ensures.kept;
  settled = λ end. subst (λ ks. Between (AreSettled (g.M.Memo.seat c.args.answerer.now.engine.memo.now) g.M.Memo.shard ks) (g.M.Memo.fronts c.args.answerer.now.engine.memo.now) (g.M.Memo.fronts c.close_line.new.answerer.engine.memo.now))
      (sym (keys_of_last c.args.session.now.state c.args.line.now _ (some_open c.bytes.result.now _ c.is_empty.result c.is_empty.ensures c.if-is_empty.false c.bytes.ensures) refl))
      (c.close_line.ensures.settled end);
}
