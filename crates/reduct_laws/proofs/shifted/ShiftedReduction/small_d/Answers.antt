use Rattle.std.proofs.Common.{sym, ◌∙◌, ap}
use Rattle.reduct_laws.specs.Shifts.{is_last}
use Rattle.reduct_laws.proofs.NormalSteps.{minus-is}
use Rattle.reduct_laws.proofs.shifted.ShiftedReduction.small_d.Goals as goal

pub returns-clause-value : goal.returns-clause-value
returns-clause-value g c =
    rw (ap (is_last c.args.self.now.up) (sym c.small_degree.ensures) ∙ sym c.if-ends.ensures)
    (minus-is g.A.Small.Ord.cmp g.met.A.Reduction.one_small g.met.A.Small.Ord.total (g.A.Reduction.prime_of c.args.self.now.of) c.negated.result.terms _ ((g.A.Reduction.maps c.args.self.now.of).small.d c.args.y.now) _
    c.negated.ensures.terms c.in_ok-small_d.ensures.prime c.in_ok-small_d.ensures.value)
