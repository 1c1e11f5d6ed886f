use Rattle.std.proofs.Common.{◌∙◌, sym}
use Rattle.std.proofs.lemmas.Result.{err_from_is_err_and}
use Rattle.script_lang.specs.Readings.{until_at}
use Rattle.script_lang.specs.Lines.{part_at, pair_at}
use Rattle.script_lang.proofs.Loops.{keeps, ends, goes_wrong, from_start, fails_as}
use Rattle.script_lang.proofs.Parts.{pair_shorter}
use Rattle.script_lang.proofs.reader.Reader.pairs.Goals as goal

pub loop-pairs-smaller : goal.loop-pairs-smaller
loop-pairs-smaller c =
    let e = rw c.in-Some.is at c.in_ok-pair.ensures in
    pair_shorter c.loop-pairs.self.rest.now c.in-Some.pair c.next_pair.new.self.rest.now e

pub loop-pairs-preserved : goal.loop-pairs-preserved
loop-pairs-preserved c =
    let e = rw c.in-Some.is at c.in_ok-pair.ensures in
    keeps (part_at pair_at) pair_shorter c.loop-pairs.pairs c.push.new.self c.loop-pairs.self.rest.now c.in-Some.pair c.next_pair.new.self.rest.now _ e c.in_ok-push.ensures.ok c.loop-pairs.invariant

pub returns : goal.returns
returns c =
    let e = rw c.in_default.is at c.in_ok-pair.ensures in
    sym (from_start (until_at (part_at pair_at) c.args.self.now.rest.now) c.new-pairs.result c.new-pairs.ensures)
    ∙ ends (part_at pair_at) pair_shorter c.loop-pairs.pairs c.loop-pairs.self.rest.now c.next_pair.new.self.rest.now _ e c.loop-pairs.invariant

pub returns-in_err-pair : goal.returns-in_err-pair
returns-in_err-pair c =
    let p = err_from_is_err_and c.from_residual.result c.from_residual.ensures.1 in
    let first = from_start (until_at (part_at pair_at) c.args.self.now.rest.now) c.new-pairs.result c.new-pairs.ensures in
    rw (p.1, p.2) (fails_as c.in_err-pair.field-0.0 _ _ first (goes_wrong (part_at pair_at) pair_shorter c.loop-pairs.pairs c.loop-pairs.self.rest.now c.in_err-pair.field-0.0 _ c.in_err-pair.ensures c.loop-pairs.invariant))
