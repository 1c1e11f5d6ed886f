use Rattle.std.proofs.Common.{suc, subst}
use Rattle.fp_field.specs.Field.{number}
use Rattle.fp_field.specs.Reduction.{IsReductionTo}
use Rattle.fp_field.proofs.Primes.{number_pos}
use Rattle.reduct_laws.proofs.ComposedMeets.{composed_meets}
use Rattle.reduct_laws.proofs.laws.composed_meets.Goals as goal

pub returns-clause-to : goal.returns-clause-to
returns-clause-to g c = λ N first second.
    composed_meets (number (g.A.Reduction.prime_of c.args.whole.now.first)) (number_pos _) (g.A.Reduction.maps c.args.whole.now.first) (g.B.Reduction.maps c.args.whole.now.second)
    c.requires.middle N first (subst (λ q. IsReductionTo (number q) N (g.B.Reduction.maps c.args.whole.now.second)) c.requires.prime second)

pub returns-clause-whole : goal.returns-clause-whole
returns-clause-whole g c = λ first second N.
    composed_meets (number (g.A.Reduction.prime_of c.args.whole.now.first)) (number_pos _) (g.A.Reduction.maps c.args.whole.now.first) (g.B.Reduction.maps c.args.whole.now.second)
    c.requires.middle N (first (suc N)) (subst (λ q. IsReductionTo (number q) N (g.B.Reduction.maps c.args.whole.now.second)) c.requires.prime (second N))
