use Rattle.std.proofs.Common.{suc, sym, ◌∙◌, subst}
use Rattle.fp_field.specs.Field.{number}
use Rattle.fp_field.specs.Reduction.{IsReductionTo}
use Rattle.fp_field.proofs.Primes.{number_pos}
use Rattle.reduct_laws.specs.Shifts.{shifted}
use Rattle.reduct_laws.proofs.Alike.{degrees_alike}
use Rattle.reduct_laws.proofs.ShiftedMeets.{shifted_down_meets}
use Rattle.reduct_laws.proofs.laws.shifted_down_meets.Goals as goal

pub returns-clause-to : goal.returns-clause-to
returns-clause-to g c = λ N part.
    subst (λ up. IsReductionTo (number (g.A.Reduction.prime_of c.args.whole.now.of)) N (shifted (number (g.A.Reduction.prime_of c.args.whole.now.of)) up
    (g.A.Reduction.degree_of c.args.whole.now.of) (g.A.Reduction.small_degree_of c.args.whole.now.of) (g.A.Reduction.maps c.args.whole.now.of))) (sym c.requires.down)
    (shifted_down_meets (number (g.A.Reduction.prime_of c.args.whole.now.of)) (number_pos _) (g.A.Reduction.degree_of c.args.whole.now.of) (g.A.Reduction.small_degree_of c.args.whole.now.of)
    (g.A.Reduction.maps c.args.whole.now.of) part.degrees
    (g.met.A.Reduction.graded_big c.args.whole.now.of)
    (λ x y e. degrees_alike g.A.Big.Ord.cmp g.met.A.Reduction.one_big (g.A.Reduction.degree_of c.args.whole.now.of) x y (sym (g.met.A.Reduction.same_big c.args.whole.now.of x y) ∙ e))
    (g.met.A.Reduction.graded_small c.args.whole.now.of)
    (λ x y e. degrees_alike g.A.Small.Ord.cmp g.met.A.Reduction.one_small (g.A.Reduction.small_degree_of c.args.whole.now.of) x y (sym (g.met.A.Reduction.same_small c.args.whole.now.of x y) ∙ e))
    N part c.requires.ends)

pub returns-clause-whole : goal.returns-clause-whole
returns-clause-whole g c = λ part N. returns-clause-to g c N (part (suc N))
