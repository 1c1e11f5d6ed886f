use Rattle.std.proofs.Common.{arith, ◌∙◌, ap, ◌%◌, ◌-◌}
use Rattle.fp_field.specs.Field.{number}
use Rattle.fp_field.proofs.Primes.{number_pos}
use Rattle.tensor_red.proofs.Signs.{parity}
use Rattle.fibred_asks.proofs.small_sums.sign_of.Goals as goal

pub returns-then-degree-eq0-clause-value : goal.returns-then-degree-eq0-clause-value
returns-then-degree-eq0-clause-value c = (parity (number c.args.p) (number_pos c.args.p) c.args.degree).0 (omega (arith, c.if-degree-eq0.true))

pub returns-else-degree-eq0-clause-value : goal.returns-else-degree-eq0-clause-value
returns-else-degree-eq0-clause-value c =
    ap (λ n. (n - 1) % number c.args.p) c.value.ensures ∙ (parity (number c.args.p) (number_pos c.args.p) c.args.degree).1 (omega (arith, c.if-degree-eq0.false))
