use Rattle.std.proofs.Common.{◌≤◌, ◌-◌}
use Rattle.fp_field.specs.Field.{number}
use Rattle.fp_field.proofs.Inverses.{power}
use Rattle.fp_field.proofs.element.inv.Given as goal

abbrev pub invariant-loop-p : goal.invariant-loop-p
invariant-loop-p l = l.b ≤ power (number l.p) l.a.value

abbrev pub decreases-loop-p : goal.decreases-loop-p
decreases-loop-p l = power (number l.p) l.a.value - l.b
