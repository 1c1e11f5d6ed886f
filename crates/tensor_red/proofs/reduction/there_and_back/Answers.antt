use Rattle.std.proofs.Common.{sym}
use Rattle.std.proofs.lemmas.Result.{IfOk-weaker}
use Rattle.chain_core.proofs.AskLemmas.{MayAsk-rest}
use Rattle.reduct_laws.proofs.AskSteps.{asked_after}
use Rattle.reduct_laws.proofs.NormalSteps.{image-is}
use Rattle.tensor_red.proofs.reduction.there_and_back.Goals as goal

pub apply-requires-clause-source : goal.apply-requires-clause-source
apply-requires-clause-source g c =
    MayAsk-rest g.S.Source.can_ask g.S.Source.runs g.S.Source.refusal g.S.Source.runs_both _ _ _ _
    (rw (sym c.in_ok-small.ensures.value) at c.requires.source) c.in_ok-small.ensures.source.ran

pub returns-clause-value : goal.returns-clause-value
returns-clause-value g c = IfOk-weaker c.apply.result _ _ (λ s e.
    image-is g.A.Small.Ord.cmp g.met.A.Reduction.one_small g.A.Big.Ord.cmp g.met.A.Reduction.one_big g.met.A.Big.Ord.total
    (g.A.Reduction.prime_of c.args.part.now) (g.A.Reduction.maps c.args.part.now).g s.terms _ _ _
    e c.in_ok-small.ensures.prime c.in_ok-small.ensures.value) c.apply.ensures.sum

pub returns-clause-source : goal.returns-clause-source
returns-clause-source g c =
    asked_after g.S.Source.can_ask g.S.Source.runs g.S.Source.refusal g.S.Source.runs_both g.A.Stop.Stops.refused _ _ _ _ _ c.apply.result
    c.in_ok-small.ensures.source (rw c.in_ok-small.ensures.value at c.apply.ensures.source)
