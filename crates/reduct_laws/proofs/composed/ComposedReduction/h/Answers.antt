use Rattle.fp_field.specs.Reduction.{after}
use Rattle.reduct_laws.proofs.AskSteps.{asked_exit}
use Rattle.reduct_laws.proofs.NormalSteps.{append-is}
use Rattle.chain_core.proofs.AskLemmas.{MayAsk-rest, until_first, until_after, AskedAll-both, part_of_whole}
use Rattle.reduct_laws.proofs.composed.ComposedReduction.h.Goals as goal

pub returns-in_err-own-clause-source : goal.returns-in_err-own-clause-source
returns-in_err-own-clause-source g c =
    asked_exit g.S.Source.can_ask g.S.Source.runs g.S.Source.refusal g.S.Source.runs_both g.A.Stop.Stops.refused _ _ _ c.from_residual.result c.from_residual.ensures.1 (λ e is.
    rw is (until_first g.S.Source.can_ask g.S.Source.runs g.S.Source.refusal g.S.Source.runs_both _ _ _ _ (g.A.Stop.Stops.refused c.in_err-own.field-0.0) c.in_err-own.ensures.source))

pub lifted_homotopy-requires-clause-source : goal.lifted_homotopy-requires-clause-source
lifted_homotopy-requires-clause-source g c =
    MayAsk-rest g.S.Source.can_ask g.S.Source.runs g.S.Source.refusal g.S.Source.runs_both _ _ _ _ c.requires.source c.in_ok-own.ensures.source.ran

pub returns-in_err-lifted-clause-source : goal.returns-in_err-lifted-clause-source
returns-in_err-lifted-clause-source g c =
    asked_exit g.S.Source.can_ask g.S.Source.runs g.S.Source.refusal g.S.Source.runs_both g.A.Stop.Stops.refused _ _ _ c.from_residual-in_err-lifted.result c.from_residual-in_err-lifted.ensures.1 (λ e is.
    rw is
    (until_after g.S.Source.can_ask g.S.Source.runs g.S.Source.refusal g.S.Source.runs_both _ _ _ _ _ (g.A.Stop.Stops.refused c.in_err-lifted.field-0.0) c.in_ok-own.ensures.source c.in_err-lifted.ensures.source))

pub returns-in_err-sum_of-clause-source : goal.returns-in_err-sum_of-clause-source
returns-in_err-sum_of-clause-source g c =
    asked_exit g.S.Source.can_ask g.S.Source.runs g.S.Source.refusal g.S.Source.runs_both g.A.Stop.Stops.refused _ _ _ c.from_residual-in_err-sum_of.result c.from_residual-in_err-sum_of.ensures.1 (λ e is.
    rw (g.met.A.Stop.Stops.memory _ _ is)
    (part_of_whole g.S.Source.can_ask g.S.Source.runs g.S.Source.refusal g.S.Source.runs_both _ _ _ (AskedAll-both g.S.Source.can_ask g.S.Source.runs g.S.Source.refusal g.S.Source.runs_both _ _ _ _ _ c.in_ok-own.ensures.source c.in_ok-lifted.ensures.source)))

pub returns-clause-value : goal.returns-clause-value
returns-clause-value g c =
    append-is g.A.Big.Ord.cmp g.met.A.Reduction.one_big g.met.A.Big.Ord.total (g.A.Reduction.prime_of c.args.self.now.first) c.in_ok-sum_of.field-0.terms _ _
    ((g.A.Reduction.maps c.args.self.now.first).h c.args.x.now)
    (after (g.A.Reduction.maps c.args.self.now.first).g (after (g.B.Reduction.maps c.args.self.now.second).h (g.A.Reduction.maps c.args.self.now.first).f) c.args.x.now) _
    c.in_ok-sum_of.ensures.sum c.in_ok-own.ensures.prime c.in_ok-own.ensures.value c.in_ok-lifted.ensures.value

pub returns-clause-source : goal.returns-clause-source
returns-clause-source g c = AskedAll-both g.S.Source.can_ask g.S.Source.runs g.S.Source.refusal g.S.Source.runs_both _ _ _ _ _ c.in_ok-own.ensures.source c.in_ok-lifted.ensures.source
