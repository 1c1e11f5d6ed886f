use Rattle.std.proofs.Common.{◌∙◌, sym}
use Rattle.std.proofs.lemmas.Result.{err_from_is_err_and}
use Rattle.script_lang.specs.Readings.{until_at}
use Rattle.script_lang.specs.Lines.{part_at, row_at}
use Rattle.script_lang.proofs.Loops.{keeps, ends, goes_wrong, from_start, fails_as}
use Rattle.script_lang.proofs.Parts.{row_shorter}
use Rattle.script_lang.proofs.reader.Reader.rows.Goals as goal

pub loop-rows-smaller : goal.loop-rows-smaller
loop-rows-smaller c =
    let e = rw c.in-Some.is at c.in_ok-row.ensures in
    row_shorter c.loop-rows.self.rest.now c.in-Some.row c.next_row.new.self.rest.now e

pub loop-rows-preserved : goal.loop-rows-preserved
loop-rows-preserved c =
    let e = rw c.in-Some.is at c.in_ok-row.ensures in
    keeps (part_at row_at) row_shorter c.loop-rows.rows c.push.new.self c.loop-rows.self.rest.now c.in-Some.row c.next_row.new.self.rest.now _ e c.in_ok-push.ensures.ok c.loop-rows.invariant

pub returns : goal.returns
returns c =
    let e = rw c.in_default.is at c.in_ok-row.ensures in
    sym (from_start (until_at (part_at row_at) c.args.self.now.rest.now) c.new-rows.result c.new-rows.ensures)
    ∙ ends (part_at row_at) row_shorter c.loop-rows.rows c.loop-rows.self.rest.now c.next_row.new.self.rest.now _ e c.loop-rows.invariant

pub returns-in_err-row : goal.returns-in_err-row
returns-in_err-row c =
    let p = err_from_is_err_and c.from_residual.result c.from_residual.ensures.1 in
    let first = from_start (until_at (part_at row_at) c.args.self.now.rest.now) c.new-rows.result c.new-rows.ensures in
    rw (p.1, p.2) (fails_as c.in_err-row.field-0.0 _ _ first (goes_wrong (part_at row_at) row_shorter c.loop-rows.rows c.loop-rows.self.rest.now c.in_err-row.field-0.0 _ c.in_err-row.ensures c.loop-rows.invariant))
