use Rattle.std.proofs.Common.{arith, ◌∙◌, ap, ◌%◌, ◌-◌}
use Rattle.fp_field.specs.Field.{number}
use Rattle.fp_field.proofs.Primes.{number_pos}
use Rattle.rule_book.proofs.Signs.{signs}
use Rattle.rule_book.proofs.rows.sign.Goals as goal

pub returns-then-i-eq0-clause-value : goal.returns-then-i-eq0-clause-value
returns-then-i-eq0-clause-value c = (signs (number c.args.p) (number_pos c.args.p) c.args.i).0 (omega (arith, c.if-i-eq0.true))

pub returns-else-i-eq0-clause-value : goal.returns-else-i-eq0-clause-value
returns-else-i-eq0-clause-value c =
    ap (λ n. (n - 1) % number c.args.p) c.value.ensures ∙ (signs (number c.args.p) (number_pos c.args.p) c.args.i).1 (omega (arith, c.if-i-eq0.false))
