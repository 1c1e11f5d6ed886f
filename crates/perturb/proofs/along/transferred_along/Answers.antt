use Rattle.std.proofs.Common.{sym, ◌∙◌, ap, subst}
use Rattle.std.proofs.lemmas.Result.{IfOk-weaker}
use Rattle.fp_field.specs.Field.{number}
use Rattle.fp_field.specs.Chains.{extend, Each}
use Rattle.fp_field.specs.Normal.{normal, apply}
use Rattle.fp_field.specs.Reduction.{after}
use Rattle.fp_field.proofs.Primes.{number_pos}
use Rattle.chain_core.specs.Asks.{asks_along}
use Rattle.chain_core.proofs.AskLemmas.{MayAsk-rest, MayAsk-first, until_first, until_after}
use Rattle.reduct_laws.proofs.AskSteps.{asked_exit, asked_after}
use Rattle.reduct_laws.proofs.NormalSteps.{image-is}
use Rattle.perturb.proofs.SeriesValues.{series-linear, none-first, none-rest, series_keys, image_keys, may_same, all_same, until_same, asked_same}
use Rattle.perturb.proofs.along.transferred_along.Goals as goal

pub returns-in_err-lifted-clause-source : goal.returns-in_err-lifted-clause-source
returns-in_err-lifted-clause-source g c =
    asked_exit g.S.Source.can_ask g.S.Source.runs g.S.Source.refusal g.S.Source.runs_both g.R.Stop.Stops.refused _ _ _ c.from_residual.result c.from_residual.ensures.1 (λ e is.
    rw is
    (until_first g.S.Source.can_ask g.S.Source.runs g.S.Source.refusal g.S.Source.runs_both _ _ _ _ (g.R.Stop.Stops.refused c.in_err-lifted.field-0.0) c.in_err-lifted.ensures.source))

pub g_along-requires-clause-source : goal.g_along-requires-clause-source
g_along-requires-clause-source g c = MayAsk-first g.S.Source.can_ask g.S.Source.runs g.S.Source.refusal g.S.Source.runs_both _ _ _ c.requires.source

pub along-requires-clause-keys : goal.along-requires-clause-keys
along-requires-clause-keys g c =
    subst (Each (g.D.ChainMap.may_be_asked c.args.delta.now)) ((series-linear (number (g.R.Reduction.prime_of c.args.r.now)) (number_pos (g.R.Reduction.prime_of c.args.r.now)) g.R.Big.Ord.cmp g.met.R.Reduction.one_big g.met.R.Big.Ord.total (after (g.R.Reduction.maps c.args.r.now).h (g.D.ChainMap.image_of c.args.delta.now)) c.args.rank ((g.R.Reduction.maps c.args.r.now).g c.args.y.now)) ∙ sym c.in_ok-lifted.ensures.value)
    (series_keys (number (g.R.Reduction.prime_of c.args.r.now)) (number_pos (g.R.Reduction.prime_of c.args.r.now)) g.R.Big.Ord.cmp g.met.R.Reduction.one_big g.met.R.Big.Ord.total (g.D.ChainMap.image_of c.args.delta.now) (g.R.Reduction.maps c.args.r.now).h g.S.Source.refusal (g.D.ChainMap.asks c.args.delta.now) (g.R.Reduction.lists c.args.r.now).h (g.D.ChainMap.may_be_asked c.args.delta.now) (g.R.Reduction.may_ask_big c.args.r.now) c.args.rank (normal g.R.Big.Ord.cmp (number (g.R.Reduction.prime_of c.args.r.now)) ((g.R.Reduction.maps c.args.r.now).g c.args.y.now))
    (c.requires.keys (none-first g.S.Source.refusal ((g.R.Reduction.lists c.args.r.now).g c.args.y.now) _ c.in_ok-lifted.ensures.source.granted))
    (none-rest g.S.Source.refusal ((g.R.Reduction.lists c.args.r.now).g c.args.y.now) _ c.in_ok-lifted.ensures.source.granted))

pub along-requires-clause-source : goal.along-requires-clause-source
along-requires-clause-source g c =
    may_same g.S.Source.can_ask g.S.Source.runs g.S.Source.refusal _ _ _ (ap (asks_along (g.D.ChainMap.asks c.args.delta.now)) c.in_ok-lifted.ensures.value)
    (MayAsk-first g.S.Source.can_ask g.S.Source.runs g.S.Source.refusal g.S.Source.runs_both _ _ _ (MayAsk-rest g.S.Source.can_ask g.S.Source.runs g.S.Source.refusal g.S.Source.runs_both _ _ _ _ c.requires.source c.in_ok-lifted.ensures.source.ran))

pub returns-in_err-moved-clause-source : goal.returns-in_err-moved-clause-source
returns-in_err-moved-clause-source g c =
    asked_exit g.S.Source.can_ask g.S.Source.runs g.S.Source.refusal g.S.Source.runs_both g.R.Stop.Stops.refused _ _ _ c.from_residual-in_err-moved.result c.from_residual-in_err-moved.ensures.1 (λ e is.
    rw is
    (until_after g.S.Source.can_ask g.S.Source.runs g.S.Source.refusal g.S.Source.runs_both _ _ _ _ _ (g.R.Stop.Stops.refused c.in_err-moved.field-0.0) c.in_ok-lifted.ensures.source
    (until_first g.S.Source.can_ask g.S.Source.runs g.S.Source.refusal g.S.Source.runs_both _ _ _ _ (g.R.Stop.Stops.refused c.in_err-moved.field-0.0)
    (until_same g.S.Source.can_ask g.S.Source.runs g.S.Source.refusal _ _ _ _ (g.R.Stop.Stops.refused c.in_err-moved.field-0.0) (ap (asks_along (g.D.ChainMap.asks c.args.delta.now)) c.in_ok-lifted.ensures.value) c.in_err-moved.ensures.source))))

pub apply-requires-clause-keys : goal.apply-requires-clause-keys
apply-requires-clause-keys g c =
    subst (Each (g.R.Reduction.may_ask_big c.args.r.now)) (ap (apply g.R.Big.Ord.cmp (number (g.R.Reduction.prime_of c.args.r.now)) (g.D.ChainMap.image_of c.args.delta.now)) (series-linear (number (g.R.Reduction.prime_of c.args.r.now)) (number_pos (g.R.Reduction.prime_of c.args.r.now)) g.R.Big.Ord.cmp g.met.R.Reduction.one_big g.met.R.Big.Ord.total (after (g.R.Reduction.maps c.args.r.now).h (g.D.ChainMap.image_of c.args.delta.now)) c.args.rank ((g.R.Reduction.maps c.args.r.now).g c.args.y.now)) ∙ sym (c.in_ok-moved.ensures.sum ∙ (λ i. normal g.R.Big.Ord.cmp (number (c.in_ok-lifted.ensures.prime i)) (extend (g.D.ChainMap.image_of c.args.delta.now) (c.in_ok-lifted.ensures.value i)))))
    (image_keys (number (g.R.Reduction.prime_of c.args.r.now)) (number_pos (g.R.Reduction.prime_of c.args.r.now)) g.R.Big.Ord.cmp g.met.R.Reduction.one_big g.met.R.Big.Ord.total (g.D.ChainMap.image_of c.args.delta.now) (g.R.Reduction.maps c.args.r.now).h g.S.Source.refusal (g.D.ChainMap.asks c.args.delta.now) (g.R.Reduction.lists c.args.r.now).h (g.D.ChainMap.may_be_asked c.args.delta.now) (g.R.Reduction.may_ask_big c.args.r.now) c.args.rank (normal g.R.Big.Ord.cmp (number (g.R.Reduction.prime_of c.args.r.now)) ((g.R.Reduction.maps c.args.r.now).g c.args.y.now))
    (c.requires.keys (none-first g.S.Source.refusal ((g.R.Reduction.lists c.args.r.now).g c.args.y.now) _ c.in_ok-lifted.ensures.source.granted))
    (none-rest g.S.Source.refusal ((g.R.Reduction.lists c.args.r.now).g c.args.y.now) _ c.in_ok-lifted.ensures.source.granted))

pub apply-requires-clause-source : goal.apply-requires-clause-source
apply-requires-clause-source g c =
    may_same g.S.Source.can_ask g.S.Source.runs g.S.Source.refusal _ _ _ (ap (asks_along (g.R.Reduction.lists c.args.r.now).f) (c.in_ok-moved.ensures.sum ∙ (λ i. normal g.R.Big.Ord.cmp (number (c.in_ok-lifted.ensures.prime i)) (extend (g.D.ChainMap.image_of c.args.delta.now) (c.in_ok-lifted.ensures.value i)))))
    (MayAsk-rest g.S.Source.can_ask g.S.Source.runs g.S.Source.refusal g.S.Source.runs_both _ _ _ _ (MayAsk-rest g.S.Source.can_ask g.S.Source.runs g.S.Source.refusal g.S.Source.runs_both _ _ _ _ c.requires.source c.in_ok-lifted.ensures.source.ran) (all_same g.S.Source.can_ask g.S.Source.runs g.S.Source.refusal _ _ _ _ (ap (asks_along (g.D.ChainMap.asks c.args.delta.now)) c.in_ok-lifted.ensures.value) c.in_ok-moved.ensures.source).ran)

pub returns-clause-value : goal.returns-clause-value
returns-clause-value g c = IfOk-weaker c.apply.result _ _ (λ s e.
    image-is g.R.Big.Ord.cmp g.met.R.Reduction.one_big g.R.Small.Ord.cmp g.met.R.Reduction.one_small g.met.R.Small.Ord.total (g.R.Reduction.prime_of c.args.r.now) (g.R.Reduction.maps c.args.r.now).f s.terms _ _ _
    e (c.in_ok-moved.ensures.prime ∙ c.in_ok-lifted.ensures.prime)
    (image-is g.R.Big.Ord.cmp g.met.R.Reduction.one_big g.R.Big.Ord.cmp g.met.R.Reduction.one_big g.met.R.Big.Ord.total (g.R.Reduction.prime_of c.args.r.now) (g.D.ChainMap.image_of c.args.delta.now) c.in_ok-moved.moved.terms _ _ _
    c.in_ok-moved.ensures.sum c.in_ok-lifted.ensures.prime c.in_ok-lifted.ensures.value)) c.apply.ensures.sum

pub returns-clause-source : goal.returns-clause-source
returns-clause-source g c =
    asked_after g.S.Source.can_ask g.S.Source.runs g.S.Source.refusal g.S.Source.runs_both g.R.Stop.Stops.refused _ _ _ _ _ c.apply.result c.in_ok-lifted.ensures.source
    (asked_after g.S.Source.can_ask g.S.Source.runs g.S.Source.refusal g.S.Source.runs_both g.R.Stop.Stops.refused _ _ _ _ _ c.apply.result (all_same g.S.Source.can_ask g.S.Source.runs g.S.Source.refusal _ _ _ _ (ap (asks_along (g.D.ChainMap.asks c.args.delta.now)) c.in_ok-lifted.ensures.value) c.in_ok-moved.ensures.source)
    (asked_same g.S.Source.can_ask g.S.Source.runs g.S.Source.refusal g.R.Stop.Stops.refused _ _ _ _ c.apply.result (ap (asks_along (g.R.Reduction.lists c.args.r.now).f) (c.in_ok-moved.ensures.sum ∙ (λ i. normal g.R.Big.Ord.cmp (number (c.in_ok-lifted.ensures.prime i)) (extend (g.D.ChainMap.image_of c.args.delta.now) (c.in_ok-lifted.ensures.value i))))) c.apply.ensures.source))
