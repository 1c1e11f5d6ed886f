use Rattle.std.proofs.Common.{subst}
use Rattle.fp_field.specs.Field.{number}
use Rattle.fp_field.specs.Reduction.{IsReductionTo}
use Rattle.fp_field.proofs.Primes.{number_pos}
use Rattle.reduct_laws.proofs.SummedMeets.{summed_meets}
use Rattle.reduct_laws.proofs.laws.summed_meets.Goals as goal

pub returns-clause-to : goal.returns-clause-to
returns-clause-to g c = λ N left right.
    summed_meets (number (g.A.Reduction.prime_of c.args.whole.now.left)) (number_pos _) (g.A.Reduction.maps c.args.whole.now.left) (g.B.Reduction.maps c.args.whole.now.right)
    N left (subst (λ q. IsReductionTo (number q) N (g.B.Reduction.maps c.args.whole.now.right)) c.requires.prime right)

pub returns-clause-whole : goal.returns-clause-whole
returns-clause-whole g c = λ left right N.
    summed_meets (number (g.A.Reduction.prime_of c.args.whole.now.left)) (number_pos _) (g.A.Reduction.maps c.args.whole.now.left) (g.B.Reduction.maps c.args.whole.now.right)
    N (left N) (subst (λ q. IsReductionTo (number q) N (g.B.Reduction.maps c.args.whole.now.right)) c.requires.prime (right N))
