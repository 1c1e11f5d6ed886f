use Rattle.std.proofs.Common.{suc, sym, subst}
use Rattle.fp_field.specs.Field.{number}
use Rattle.fp_field.specs.Reduction.{IsReductionTo}
use Rattle.fp_field.proofs.Primes.{number_pos}
use Rattle.reduct_laws.specs.Shifts.{shifted}
use Rattle.reduct_laws.proofs.Fewer.{at_each}
use Rattle.reduct_laws.proofs.ShiftedMeets.{shifted_up_meets}
use Rattle.reduct_laws.proofs.laws.shifted_up_meets.Goals as goal

pub returns-clause-to : goal.returns-clause-to
returns-clause-to g c = λ N part.
    subst (λ up. IsReductionTo (number (g.A.Reduction.prime_of c.args.whole.now.of)) (suc N) (shifted (number (g.A.Reduction.prime_of c.args.whole.now.of)) up
    (g.A.Reduction.degree_of c.args.whole.now.of) (g.A.Reduction.small_degree_of c.args.whole.now.of) (g.A.Reduction.maps c.args.whole.now.of))) (sym c.requires.up)
    (shifted_up_meets (number (g.A.Reduction.prime_of c.args.whole.now.of)) (number_pos _) (g.A.Reduction.degree_of c.args.whole.now.of) (g.A.Reduction.small_degree_of c.args.whole.now.of)
    (g.A.Reduction.maps c.args.whole.now.of) N part)

pub returns-clause-whole : goal.returns-clause-whole
returns-clause-whole g c = λ part.
    at_each _ _ (λ N. returns-clause-to g c N (part N))
