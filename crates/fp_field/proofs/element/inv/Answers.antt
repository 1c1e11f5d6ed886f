use Rattle.std.proofs.Common.{arith, ◌≤◌, ◌∙◌, suc}
use Rattle.fp_field.specs.Field.{number}
use Rattle.fp_field.proofs.Inverses.{power, power-above, power-positive}
use Rattle.fp_field.proofs.element.inv.Goals as goal

next : (c : goal.In-loop-p) → suc c.loop-p.b ≤ power (number c.args.p) c.args.a.value
next c =
    power-above c.args.p c.args.a.value c.loop-p.b c.requires.nonzero c.requires.element c.loop-p.invariant
    (λ e. c.loop-p-test.true (c.mul.ensures ∙ e))

pub loop-p-init : goal.loop-p-init
loop-p-init c = power-positive c.args.p c.args.a.value c.requires.nonzero c.requires.element

pub loop-p-smaller : goal.loop-p-smaller
loop-p-smaller c = let above : suc c.loop-p.b ≤ power (number c.args.p) c.args.a.value = next c in omega arith

pub loop-p-preserved : goal.loop-p-preserved
loop-p-preserved c = let above : suc c.loop-p.b ≤ power (number c.args.p) c.args.a.value = next c in omega arith
