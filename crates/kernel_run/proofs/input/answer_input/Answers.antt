use Rattle.std.proofs.Common.{◌≡◌, ◌≢◌, ◌-◌, ◌<◌, ◌≤◌, [], take, drop, ap, refl, arith, rules}
use Rattle.kernel_run.specs.declared.report.End.TheVariants.{Finished}
use Rattle.kernel_run.proofs.Ends.{read_failed, piece_stopped, last_answered, long_ended}
use Rattle.kernel_run.proofs.Forced.{kept_self, kept_both, ready_after}
use Rattle.kernel_run.proofs.Reading.{course_starts, part_room, front_read, count_read, most_read}
use Rattle.kernel_run.proofs.Settling.{settled_starts, settled_more, script_settled, course_settled}
use Rattle.kernel_run.proofs.input.answer_input.Goals as goal

pub loop-read-init : goal.loop-read-init
loop-read-init g c = record {
  course = settled_starts _ _ _ _ _ _ _ _ (course_starts _ _ _ _ _ (ap (λ z. z.state) c.requires.session) c.new-line.ensures refl refl);
  open_still = ap (λ z. z.is_ended) c.requires.session;
  kept = kept_self g.M.Memo.seat g.M.Memo.shard g.M.Memo.fronts g.M.Memo.origin _ _ _ _;
}

pub returns-in_default-clause-port : goal.returns-in_default-clause-port
returns-in_default-clause-port g c =
    let less : c.loop-read.read ≤ 16777216 = omega arith in
    read_failed _ _ _ _ _ _ _ _ c.loop-read.invariant.course.course less c.in_default.ensures.fails c.read_some.ensures.writes

pub answer_last-requires-clause-replies : goal.answer_last-requires-clause-replies
answer_last-requires-clause-replies g c =
    let room : c.loop-read.report.replies < 16777217 = omega (arith, c.loop-read.invariant.course.course.room) in room

pub answer_last-requires-clause-errors : goal.answer_last-requires-clause-errors
answer_last-requires-clause-errors g c =
    let room : c.loop-read.report.errors < 16777217 = omega (arith, c.loop-read.invariant.course.course.error_room) in room

pub answer_last-requires-clause-end : goal.answer_last-requires-clause-end
answer_last-requires-clause-end g c = c.loop-read.invariant.course.course.end

pub answer_last-requires-clause-ready : goal.answer_last-requires-clause-ready
answer_last-requires-clause-ready g c =
    ready_after g.M.Memo.seat g.M.Memo.shard g.M.Memo.fronts g.M.Memo.origin g.R.RuleSet.treats _ _ _ _ _ _ _ _ c.requires.ready c.loop-read.invariant.kept

pub returns-then-count-eq0-clause-port : goal.returns-then-count-eq0-clause-port
returns-then-count-eq0-clause-port g c =
    let less : c.loop-read.read ≤ 16777216 = omega arith in
    last_answered _ _ _ _ _ _ _ _ _ _ c.loop-read.invariant.course.course less (c.in-Ok.ensures.none c.if-count-eq0.true) c.in-Ok.ensures.good c.read_some.ensures.writes
    c.answer_last.ensures.reads c.answer_last.ensures.answer

pub returns-then-count-eq0-clause-kept : goal.returns-then-count-eq0-clause-kept
returns-then-count-eq0-clause-kept g c =
    kept_both g.M.Memo.seat g.M.Memo.shard g.M.Memo.fronts g.M.Memo.origin _ _ _ _ _ _ _ _ _ _ _ _ c.loop-read.invariant.kept c.answer_last.ensures.kept

pub returns-then-count-eq0-clause-settled : goal.returns-then-count-eq0-clause-settled
returns-then-count-eq0-clause-settled g c = λ end.
    let less : c.loop-read.read ≤ 16777216 = omega arith in
    let i = c.loop-read.invariant in
    let e = c.answer_last.ensures in
    script_settled _ _ _ _ _ _ _ _ (g.M.Memo.seat c.args.answerer.now.engine.memo.now) g.M.Memo.shard (g.M.Memo.fronts c.args.answerer.now.engine.memo.now) (g.M.Memo.fronts c.answer_last.new.answerer.engine.memo.now) _ i.course.course less (c.in-Ok.ensures.none c.if-count-eq0.true) e.reads
    (settled_more g.M.Memo.seat g.M.Memo.shard g.M.Memo.fronts g.M.Memo.origin _ _ _ _ _ _ _ _ _ i.course.settled i.kept.ran (e.settled end) e.kept.ran)

pub answer_piece-report-requires-clause-replies : goal.answer_piece-report-requires-clause-replies
answer_piece-report-requires-clause-replies g c =
    let less : c.loop-read.read ≤ 16777216 = omega arith in
    part_room _ _ _ _ c.loop-read.invariant.course.course.room less c.part_to_answer-piece.ensures

pub answer_piece-report-requires-clause-errors : goal.answer_piece-report-requires-clause-errors
answer_piece-report-requires-clause-errors g c =
    let less : c.loop-read.read ≤ 16777216 = omega arith in
    part_room _ _ _ _ c.loop-read.invariant.course.course.error_room less c.part_to_answer-piece.ensures

pub answer_piece-report-requires-clause-end : goal.answer_piece-report-requires-clause-end
answer_piece-report-requires-clause-end g c = c.loop-read.invariant.course.course.end

pub answer_piece-report-requires-clause-ready : goal.answer_piece-report-requires-clause-ready
answer_piece-report-requires-clause-ready g c =
    ready_after g.M.Memo.seat g.M.Memo.shard g.M.Memo.fronts g.M.Memo.origin g.R.RuleSet.treats _ _ _ _ _ _ _ _ c.requires.ready c.loop-read.invariant.kept

pub returns-then-ne-clause-kept : goal.returns-then-ne-clause-kept
returns-then-ne-clause-kept g c =
    kept_both g.M.Memo.seat g.M.Memo.shard g.M.Memo.fronts g.M.Memo.origin _ _ _ _ _ _ _ _ _ _ _ _ c.loop-read.invariant.kept c.answer_piece-report.ensures.kept

pub returns-then-ne-clause-port : goal.returns-then-ne-clause-port
returns-then-ne-clause-port g c =
    let less : c.loop-read.read ≤ 16777216 = omega arith in
    let some : 0 < c.in-Ok.count = omega arith in
    let not : c.answer_piece-report.result.end ≢ Finished = search rules in
    let e = c.answer_piece-report.ensures in
    piece_stopped _ _ _ _ _ _ _ _ _ _ c.loop-read.invariant.course.course less (take c.in-Ok.count c.read_some.new.buf) c.part_to_answer-piece.result.now (c.in-Ok.ensures.some some) c.in-Ok.ensures.good c.read_some.ensures.writes
    (front_read c.in-Ok.count c.min-room.result c.loop-read.read c.loop-read.buf c.read_some.new.buf (drop c.min-room.result c.loop-read.buf) c.in-Ok.ensures.bound c.read_some.ensures.len
    c.part_to_answer-piece.result.now (16777216 - c.loop-read.read) c.part_to_answer-piece.ensures)
    e.reads e.answer not

pub overflow_add-read : goal.overflow_add-read
overflow_add-read g c =
    let less : c.loop-read.read ≤ 16777216 = omega arith in
    let room : c.min-room.result ≤ 16777217 - c.loop-read.read = omega arith in
    let most = most_read c.in-Ok.count c.min-room.result c.loop-read.read c.loop-read.buf c.read_some.new.buf [] c.in-Ok.ensures.bound c.read_some.ensures.len room less in
    omega (arith, most)

pub loop-read-preserved : goal.loop-read-preserved
loop-read-preserved g c =
    let less : c.loop-read.read ≤ 16777216 = omega arith in
    let some : 0 < c.in-Ok.count = omega arith in
    let room : c.min-room.result ≤ 16777217 - c.loop-read.read = omega arith in
    let end : c.answer_piece-report.result.end ≡ Finished = search rules in
    let e = c.answer_piece-report.ensures in
    let after = e.session end in
    let i = c.loop-read.invariant in record {
      course = course_settled g.M.Memo.seat g.M.Memo.shard g.M.Memo.fronts g.M.Memo.origin _ _ _ _ _ _ _ _ _ _ _ _ _ _ _ _ _ _ _ _ _ i.course less
          (c.in-Ok.ensures.some some) c.in-Ok.ensures.good c.read_some.ensures.writes
          (front_read c.in-Ok.count c.min-room.result c.loop-read.read c.loop-read.buf c.read_some.new.buf (drop c.min-room.result c.loop-read.buf) c.in-Ok.ensures.bound c.read_some.ensures.len
          c.part_to_answer-piece.result.now (16777216 - c.loop-read.read) c.part_to_answer-piece.ensures)
          e.reads e.answer end after.state (e.line end)
          (count_read c.in-Ok.count c.min-room.result c.loop-read.read c.loop-read.buf c.read_some.new.buf [] c.in-Ok.ensures.bound c.read_some.ensures.len)
          (most_read c.in-Ok.count c.min-room.result c.loop-read.read c.loop-read.buf c.read_some.new.buf [] c.in-Ok.ensures.bound c.read_some.ensures.len room less)
          e.replies e.errors i.kept.ran (e.settled end) e.kept.ran;
      open_still = after.open_still;
      kept = kept_both g.M.Memo.seat g.M.Memo.shard g.M.Memo.fronts g.M.Memo.origin _ _ _ _ _ _ _ _ _ _ _ _ i.kept e.kept;
    }

pub returns-clause-port : goal.returns-clause-port
returns-clause-port g c =
    let full : 16777217 ≤ c.loop-read.read = omega arith in
    long_ended _ _ _ _ _ _ _ _ _ c.loop-read.invariant.course.course full c.end_long.ensures
