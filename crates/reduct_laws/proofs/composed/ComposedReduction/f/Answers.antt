use Rattle.std.proofs.Common.{sym}
use Rattle.std.proofs.lemmas.Result.{IfOk-weaker}
use Rattle.chain_core.proofs.AskLemmas.{MayAsk-rest}
use Rattle.reduct_laws.proofs.AskSteps.{asked_after}
use Rattle.reduct_laws.proofs.NormalSteps.{image-is}
use Rattle.reduct_laws.proofs.composed.ComposedReduction.f.Goals as goal

pub apply-requires-clause-source : goal.apply-requires-clause-source
apply-requires-clause-source g c =
    MayAsk-rest g.S.Source.can_ask g.S.Source.runs g.S.Source.refusal g.S.Source.runs_both _ _ _ _
    (rw (sym c.in_ok-middle.ensures.value) at c.requires.source) c.in_ok-middle.ensures.source.ran

pub returns-clause-value : goal.returns-clause-value
returns-clause-value g c = IfOk-weaker c.apply.result _ _ (λ s e.
    image-is g.A.Small.Ord.cmp g.met.A.Reduction.one_small g.B.Small.Ord.cmp g.met.B.Reduction.one_small g.met.B.Small.Ord.total
    (g.A.Reduction.prime_of c.args.self.now.first) (g.B.Reduction.maps c.args.self.now.second).f s.terms _ _ _
    e c.in_ok-middle.ensures.prime c.in_ok-middle.ensures.value) c.apply.ensures.sum

pub returns-clause-source : goal.returns-clause-source
returns-clause-source g c =
    asked_after g.S.Source.can_ask g.S.Source.runs g.S.Source.refusal g.S.Source.runs_both g.A.Stop.Stops.refused _ _ _ _ _ c.apply.result
    c.in_ok-middle.ensures.source (rw c.in_ok-middle.ensures.value at c.apply.ensures.source)
