use Rattle.std.proofs.Common.{sym, ◌∙◌, ap}
use Rattle.reduct_laws.specs.Shifts.{is_last}
use Rattle.reduct_laws.proofs.NormalSteps.{minus-is}
use Rattle.reduct_laws.proofs.shifted.ShiftedReduction.big_d.Goals as goal

pub returns-clause-value : goal.returns-clause-value
returns-clause-value g c =
    rw (ap (is_last c.args.self.now.up) (sym c.degree.ensures) ∙ sym c.if-ends.ensures)
    (minus-is g.A.Big.Ord.cmp g.met.A.Reduction.one_big g.met.A.Big.Ord.total (g.A.Reduction.prime_of c.args.self.now.of) c.negated.result.terms _ ((g.A.Reduction.maps c.args.self.now.of).big.d c.args.x.now) _
    c.negated.ensures.terms c.in_ok-big_d.ensures.prime c.in_ok-big_d.ensures.value)
