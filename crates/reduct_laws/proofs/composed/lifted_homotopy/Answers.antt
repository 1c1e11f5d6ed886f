use Rattle.std.proofs.Common.{sym, ◌∙◌, ap}
use Rattle.std.proofs.lemmas.Result.{IfOk-weaker}
use Rattle.fp_field.specs.Field.{number}
use Rattle.fp_field.specs.Chains.{extend}
use Rattle.fp_field.specs.Normal.{normal}
use Rattle.chain_core.proofs.AskLemmas.{MayAsk-rest, MayAsk-first, until_first, until_after}
use Rattle.reduct_laws.proofs.AskSteps.{asked_after, asked_exit}
use Rattle.reduct_laws.proofs.NormalSteps.{image-is}
use Rattle.reduct_laws.proofs.composed.lifted_homotopy.Goals as goal

pub returns-in_err-middle-clause-source : goal.returns-in_err-middle-clause-source
returns-in_err-middle-clause-source g c =
    asked_exit g.S.Source.can_ask g.S.Source.runs g.S.Source.refusal g.S.Source.runs_both g.A.Stop.Stops.refused _ _ _ c.from_residual.result c.from_residual.ensures.1 (λ e is.
    rw is (until_first g.S.Source.can_ask g.S.Source.runs g.S.Source.refusal g.S.Source.runs_both _ _ _ _ (g.A.Stop.Stops.refused c.in_err-middle.field-0.0) c.in_err-middle.ensures.source))

pub apply-requires-clause-source : goal.apply-requires-clause-source
apply-requires-clause-source g c =
    MayAsk-first g.S.Source.can_ask g.S.Source.runs g.S.Source.refusal g.S.Source.runs_both _ _ _
    (MayAsk-rest g.S.Source.can_ask g.S.Source.runs g.S.Source.refusal g.S.Source.runs_both _ _ _ _
    (rw (sym c.in_ok-middle.ensures.value) at c.requires.source) c.in_ok-middle.ensures.source.ran)

pub returns-in_err-raised-clause-source : goal.returns-in_err-raised-clause-source
returns-in_err-raised-clause-source g c =
    asked_exit g.S.Source.can_ask g.S.Source.runs g.S.Source.refusal g.S.Source.runs_both g.A.Stop.Stops.refused _ _ _ c.from_residual-in_err-raised.result c.from_residual-in_err-raised.ensures.1 (λ e is.
    rw is
    (until_after g.S.Source.can_ask g.S.Source.runs g.S.Source.refusal g.S.Source.runs_both _ _ _ _ _ (g.A.Stop.Stops.refused c.in_err-raised.field-0.0) c.in_ok-middle.ensures.source
    (until_first g.S.Source.can_ask g.S.Source.runs g.S.Source.refusal g.S.Source.runs_both _ _ _ _ (g.A.Stop.Stops.refused c.in_err-raised.field-0.0)
    (rw c.in_ok-middle.ensures.value at c.in_err-raised.ensures.source))))

pub apply-requires-2-clause-source : goal.apply-requires-2-clause-source
apply-requires-2-clause-source g c =
    MayAsk-rest g.S.Source.can_ask g.S.Source.runs g.S.Source.refusal g.S.Source.runs_both _ _ _ _
    (MayAsk-rest g.S.Source.can_ask g.S.Source.runs g.S.Source.refusal g.S.Source.runs_both _ _ _ _
    (rw (sym (c.in_ok-raised.ensures.sum ∙ ap (λ q. normal g.A.Small.Ord.cmp (number q) (extend (g.B.Reduction.maps c.args.parts.now.second).h c.in_ok-middle.middle.terms)) c.in_ok-middle.ensures.prime)) at (rw (sym c.in_ok-middle.ensures.value) at c.requires.source)) c.in_ok-middle.ensures.source.ran) c.in_ok-raised.ensures.source.ran

pub returns-clause-value : goal.returns-clause-value
returns-clause-value g c = IfOk-weaker c.apply-2.result _ _ (λ s e.
    image-is g.A.Small.Ord.cmp g.met.A.Reduction.one_small g.A.Big.Ord.cmp g.met.A.Reduction.one_big g.met.A.Big.Ord.total
    (g.A.Reduction.prime_of c.args.parts.now.first) (g.A.Reduction.maps c.args.parts.now.first).g s.terms _ _ _
    e (c.in_ok-raised.ensures.prime ∙ c.in_ok-middle.ensures.prime)
    (image-is g.A.Small.Ord.cmp g.met.A.Reduction.one_small g.A.Small.Ord.cmp g.met.A.Reduction.one_small g.met.A.Small.Ord.total
    (g.A.Reduction.prime_of c.args.parts.now.first) (g.B.Reduction.maps c.args.parts.now.second).h c.in_ok-raised.raised.terms _ _ _
    c.in_ok-raised.ensures.sum c.in_ok-middle.ensures.prime c.in_ok-middle.ensures.value)) c.apply-2.ensures.sum

pub returns-clause-source : goal.returns-clause-source
returns-clause-source g c =
    asked_after g.S.Source.can_ask g.S.Source.runs g.S.Source.refusal g.S.Source.runs_both g.A.Stop.Stops.refused _ _ _ _ _ c.apply-2.result c.in_ok-middle.ensures.source
    (asked_after g.S.Source.can_ask g.S.Source.runs g.S.Source.refusal g.S.Source.runs_both g.A.Stop.Stops.refused _ _ _ _ _ c.apply-2.result
    (rw c.in_ok-middle.ensures.value at c.in_ok-raised.ensures.source) (rw (c.in_ok-raised.ensures.sum ∙ (λ i. normal g.A.Small.Ord.cmp (number (c.in_ok-middle.ensures.prime i)) (extend (g.B.Reduction.maps c.args.parts.now.second).h (c.in_ok-middle.ensures.value i)))) at c.apply-2.ensures.source))
