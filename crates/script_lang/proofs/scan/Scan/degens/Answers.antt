use Rattle.std.proofs.Common.{◌∙◌, sym}
use Rattle.std.proofs.lemmas.Result.{err_from_is_err_and}
use Rattle.script_lang.specs.Readings.{until_at}
use Rattle.script_lang.specs.Scans.{degen_in, degens_in}
use Rattle.script_lang.proofs.Loops.{keeps, ends, goes_wrong, from_first, fails_as}
use Rattle.script_lang.proofs.Prefixes.{degen_shorter}
use Rattle.script_lang.proofs.scan.Scan.degens.Goals as goal

pub loop-degens-smaller : goal.loop-degens-smaller
loop-degens-smaller c =
    let e = rw c.in-Some.is at c.in_ok-degen.ensures in
    degen_shorter c.loop-degens.self.rest.now c.in-Some.degen c.degen.new.self.rest.now e

pub loop-degens-preserved : goal.loop-degens-preserved
loop-degens-preserved c =
    let e = rw c.in-Some.is at c.in_ok-degen.ensures in
    keeps degen_in degen_shorter c.loop-degens.degens c.push-in-Some.new.self c.loop-degens.self.rest.now c.in-Some.degen c.degen.new.self.rest.now _ e c.in_ok-push-2.ensures.ok c.loop-degens.invariant

pub returns : goal.returns
unfolding degens_in
returns c =
    let e = rw c.in_default.is at c.in_ok-degen.ensures in
    let n = c.in_ok-number.ensures.gives in
    rw n (sym (from_first (until_at degen_in c.number.new.self.rest.now) c.push.new.self c.in_ok-number.field-0 c.new_seq-degens.result c.new_seq-degens.ensures c.in_ok-push.ensures.ok)
    ∙ ends degen_in degen_shorter c.loop-degens.degens c.loop-degens.self.rest.now c.degen.new.self.rest.now _ e c.loop-degens.invariant)

pub returns-in_err-degen : goal.returns-in_err-degen
unfolding degens_in
returns-in_err-degen c =
    let p = err_from_is_err_and c.from_residual-in_err-degen.result c.from_residual-in_err-degen.ensures.1 in
    let n = c.in_ok-number.ensures.gives in
    let first = from_first (until_at degen_in c.number.new.self.rest.now) c.push.new.self c.in_ok-number.field-0 c.new_seq-degens.result c.new_seq-degens.ensures c.in_ok-push.ensures.ok in
    rw (p.1, p.2) (rw n (fails_as c.in_err-degen.field-0.0 _ _ first (goes_wrong degen_in degen_shorter c.loop-degens.degens c.loop-degens.self.rest.now c.in_err-degen.field-0.0 _ c.in_err-degen.ensures c.loop-degens.invariant)))
