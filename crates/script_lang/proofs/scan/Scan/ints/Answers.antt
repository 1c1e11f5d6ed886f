use Rattle.std.proofs.Common.{rules, ◌∙◌, ◌++◌, ◌∷◌, [], sym, ap, w64, SFits}
use Rattle.std.specs.Prelude.{ℤ}
use Rattle.std.proofs.lemmas.Int.{to_z-of_z}
use Rattle.std.proofs.lemmas.Result.{err_from_is_err_and}
use Rattle.script_lang.specs.Readings.{until_at}
use Rattle.script_lang.specs.Scans.{int_in}
use Rattle.script_lang.proofs.Loops.{keeps, ends, goes_wrong, from_start, fails_as}
use Rattle.script_lang.proofs.Prefixes.{int_shorter}
use Rattle.script_lang.proofs.scan.Scan.ints.Goals as goal

pub loop-ints-smaller : goal.loop-ints-smaller
loop-ints-smaller c =
    let e = rw c.in-Some.is at c.in_ok-n.ensures in
    int_shorter c.loop-ints.self.rest.now c.in-Some.n c.int.new.self.rest.now e

pub loop-ints-preserved : goal.loop-ints-preserved
loop-ints-preserved c =
    let e = rw c.in-Some.is at c.in_ok-n.ensures in
    let fits : SFits w64 c.in-Some.n = search rules in
    let longer = c.in_ok-push.ensures.ok ∙ ap (λ (z : ℤ). c.loop-ints.ints ++ z ∷ []) (to_z-of_z w64 c.in-Some.n fits) in
    keeps int_in int_shorter c.loop-ints.ints c.push.new.self c.loop-ints.self.rest.now c.in-Some.n c.int.new.self.rest.now _ e longer c.loop-ints.invariant

pub returns : goal.returns
returns c =
    let e = rw c.in_default.is at c.in_ok-n.ensures in
    sym (from_start (until_at int_in c.args.self.now.rest.now) c.new_seq-ints.result c.new_seq-ints.ensures)
    ∙ ends int_in int_shorter c.loop-ints.ints c.loop-ints.self.rest.now c.int.new.self.rest.now _ e c.loop-ints.invariant

pub returns-in_err-n : goal.returns-in_err-n
returns-in_err-n c =
    let p = err_from_is_err_and c.from_residual.result c.from_residual.ensures.1 in
    let first = from_start (until_at int_in c.args.self.now.rest.now) c.new_seq-ints.result c.new_seq-ints.ensures in
    rw (p.1, p.2) (fails_as c.in_err-n.field-0.0 _ _ first (goes_wrong int_in int_shorter c.loop-ints.ints c.loop-ints.self.rest.now c.in_err-n.field-0.0 _ c.in_err-n.ensures c.loop-ints.invariant))
