use Rattle.std.proofs.Common.{sym, ◌∙◌, ap}
use Rattle.std.proofs.lemmas.Result.{IfOk-weaker}
use Rattle.fp_field.specs.Field.{number}
use Rattle.fp_field.specs.Reduction.{after}
use Rattle.fp_field.specs.Series.{series}
use Rattle.fp_field.proofs.Primes.{number_pos}
use Rattle.chain_core.proofs.AskLemmas.{MayAsk-rest, until_first}
use Rattle.reduct_laws.proofs.AskSteps.{asked_exit, asked_after}
use Rattle.perturb.specs.PerturbedLists.{series_asks, series_may_ask}
use Rattle.perturb.proofs.SeriesValues.{carry, series-is, may_same, asked_same}
use Rattle.perturb.proofs.along.g_along.Goals as goal

pub returns-in_err-start-clause-source : goal.returns-in_err-start-clause-source
returns-in_err-start-clause-source g c =
    asked_exit g.S.Source.can_ask g.S.Source.runs g.S.Source.refusal g.S.Source.runs_both g.R.Stop.Stops.refused _ _ _ c.from_residual.result c.from_residual.ensures.1 (λ e is.
    rw is
    (until_first g.S.Source.can_ask g.S.Source.runs g.S.Source.refusal g.S.Source.runs_both _ _ _ _ (g.R.Stop.Stops.refused c.in_err-start.field-0.0) c.in_err-start.ensures.source))

pub series_along-requires-clause-keys : goal.series_along-requires-clause-keys
series_along-requires-clause-keys g c = carry (λ v d. series_may_ask g.R.Big.Ord.cmp (number v) (g.D.ChainMap.image_of c.args.delta.now) (g.R.Reduction.maps c.args.r.now).h g.S.Source.refusal (g.D.ChainMap.asks c.args.delta.now) (g.R.Reduction.lists c.args.r.now).h (g.D.ChainMap.may_be_asked c.args.delta.now) (g.R.Reduction.may_ask_big c.args.r.now) c.args.rank d) (sym c.in_ok-start.ensures.prime) (sym c.in_ok-start.ensures.value) (c.requires.keys c.in_ok-start.ensures.source.granted)

pub series_along-requires-clause-source : goal.series_along-requires-clause-source
series_along-requires-clause-source g c =
    may_same g.S.Source.can_ask g.S.Source.runs g.S.Source.refusal _ _ _ (λ i. series_asks g.R.Big.Ord.cmp (number (c.in_ok-start.ensures.prime i)) (g.D.ChainMap.image_of c.args.delta.now) (g.R.Reduction.maps c.args.r.now).h (g.D.ChainMap.asks c.args.delta.now) (g.R.Reduction.lists c.args.r.now).h c.args.rank (c.in_ok-start.ensures.value i))
    (MayAsk-rest g.S.Source.can_ask g.S.Source.runs g.S.Source.refusal g.S.Source.runs_both _ _ _ _ c.requires.source c.in_ok-start.ensures.source.ran)

pub returns-clause-value : goal.returns-clause-value
returns-clause-value g c = IfOk-weaker c.series_along.result _ _ (λ s e.
    series-is (number (g.R.Reduction.prime_of c.args.r.now)) (number_pos (g.R.Reduction.prime_of c.args.r.now)) g.R.Big.Ord.cmp g.met.R.Reduction.one_big g.met.R.Big.Ord.total (after (g.R.Reduction.maps c.args.r.now).h (g.D.ChainMap.image_of c.args.delta.now)) c.args.rank s.terms c.in_ok-start.start.terms ((g.R.Reduction.maps c.args.r.now).g c.args.y.now)
    (e ∙ ap (λ v. series g.R.Big.Ord.cmp (number v) c.args.rank (after (g.R.Reduction.maps c.args.r.now).h (g.D.ChainMap.image_of c.args.delta.now)) c.in_ok-start.start.terms) c.in_ok-start.ensures.prime) c.in_ok-start.ensures.value) c.series_along.ensures.sum

pub returns-clause-source : goal.returns-clause-source
returns-clause-source g c =
    asked_after g.S.Source.can_ask g.S.Source.runs g.S.Source.refusal g.S.Source.runs_both g.R.Stop.Stops.refused _ _ _ _ _ c.series_along.result c.in_ok-start.ensures.source
    (asked_same g.S.Source.can_ask g.S.Source.runs g.S.Source.refusal g.R.Stop.Stops.refused _ _ _ _ c.series_along.result (λ i. series_asks g.R.Big.Ord.cmp (number (c.in_ok-start.ensures.prime i)) (g.D.ChainMap.image_of c.args.delta.now) (g.R.Reduction.maps c.args.r.now).h (g.D.ChainMap.asks c.args.delta.now) (g.R.Reduction.lists c.args.r.now).h c.args.rank (c.in_ok-start.ensures.value i)) c.series_along.ensures.source)
