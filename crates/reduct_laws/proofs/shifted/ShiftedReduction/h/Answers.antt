use Rattle.reduct_laws.proofs.NormalSteps.{minus-is}
use Rattle.reduct_laws.proofs.shifted.ShiftedReduction.h.Goals as goal

pub returns-clause-value : goal.returns-clause-value
returns-clause-value g c =
    minus-is g.A.Big.Ord.cmp g.met.A.Reduction.one_big g.met.A.Big.Ord.total (g.A.Reduction.prime_of c.args.self.now.of) c.negated.result.terms _ ((g.A.Reduction.maps c.args.self.now.of).h c.args.x.now) _
    c.negated.ensures.terms c.in_ok-h.ensures.prime c.in_ok-h.ensures.value
