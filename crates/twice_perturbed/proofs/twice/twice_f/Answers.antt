use Rattle.std.proofs.Common.{◌+◌, [], sym, ◌∙◌, ap, subst}
use Rattle.std.proofs.lemmas.Result.{IfOk-weaker}
use Rattle.fp_field.specs.Field.{number}
use Rattle.fp_field.specs.Chains.{extend, Each}
use Rattle.fp_field.specs.Normal.{normal}
use Rattle.fp_field.specs.Reduction.{after}
use Rattle.fp_field.specs.Series.{series}
use Rattle.fp_field.proofs.Primes.{number_pos}
use Rattle.chain_core.specs.Asks.{asks_along}
use Rattle.chain_core.proofs.AskLemmas.{MayAsk-rest, MayAsk-first, until_first}
use Rattle.reduct_laws.proofs.AskSteps.{asked_exit, asked_after}
use Rattle.perturb.specs.PerturbedLists.{series_asks, series_may_ask}
use Rattle.perturb.proofs.SeriesValues.{carry, nothing_asked, series_keys, may_same, all_same, until_same, asked_same}
use Rattle.twice_perturbed.specs.Firsts.{difference, MayDiffer}
use Rattle.twice_perturbed.specs.Twice.{f_start}
use Rattle.twice_perturbed.proofs.twice.twice_f.Goals as goal

pub returns-in_err-start-clause-source : goal.returns-in_err-start-clause-source
returns-in_err-start-clause-source g c =
    asked_exit g.S.Source.can_ask g.S.Source.runs g.S.Source.refusal g.S.Source.runs_both g.T.Stop.Stops.refused _ _ _ c.from_residual.result c.from_residual.ensures.1 (λ e is.
    rw (g.met.T.Stop.Stops.memory _ _ is)
    (nothing_asked g.S.Source.runs g.S.Source.refusal g.S.Source.runs_none _ _))

pub series_along-requires-clause-keys : goal.series_along-requires-clause-keys
series_along-requires-clause-keys g c = carry (λ v d. series_may_ask g.D.Middle.Ord.cmp (number v) (g.T.Reduction.maps c.args.m.now.second.now).h (difference g.D.Big.Ord.cmp g.D.Middle.Ord.cmp (g.D.FirstMaps.maps c.args.m.now.first.now) (c.args.n + 2)) g.S.Source.refusal (g.T.Reduction.lists c.args.m.now.second.now).h (λ x. []) (g.T.Reduction.may_ask_big c.args.m.now.second.now) (MayDiffer g.D.Big.Ord.cmp g.D.Middle.Ord.cmp (g.D.FirstMaps.maps c.args.m.now.first.now) (c.args.n + 2)) (c.args.n + 1) d) (sym c.in_ok-start.ensures.prime) (sym c.in_ok-start.ensures.value) c.requires.keys.1

pub series_along-requires-clause-source : goal.series_along-requires-clause-source
series_along-requires-clause-source g c =
    may_same g.S.Source.can_ask g.S.Source.runs g.S.Source.refusal _ _ _ (λ i. series_asks g.D.Middle.Ord.cmp (number (c.in_ok-start.ensures.prime i)) (g.T.Reduction.maps c.args.m.now.second.now).h (difference g.D.Big.Ord.cmp g.D.Middle.Ord.cmp (g.D.FirstMaps.maps c.args.m.now.first.now) (c.args.n + 2)) (g.T.Reduction.lists c.args.m.now.second.now).h (λ x. []) (c.args.n + 1) (c.in_ok-start.ensures.value i)) (MayAsk-first g.S.Source.can_ask g.S.Source.runs g.S.Source.refusal g.S.Source.runs_both _ _ _ c.requires.source)

pub returns-in_err-sum-clause-source : goal.returns-in_err-sum-clause-source
returns-in_err-sum-clause-source g c =
    asked_exit g.S.Source.can_ask g.S.Source.runs g.S.Source.refusal g.S.Source.runs_both g.T.Stop.Stops.refused _ _ _ c.from_residual-in_err-sum.result c.from_residual-in_err-sum.ensures.1 (λ e is.
    rw is
    (until_first g.S.Source.can_ask g.S.Source.runs g.S.Source.refusal g.S.Source.runs_both _ _ _ _ (g.T.Stop.Stops.refused c.in_err-sum.field-0.0) (until_same g.S.Source.can_ask g.S.Source.runs g.S.Source.refusal _ _ _ _ (g.T.Stop.Stops.refused c.in_err-sum.field-0.0) (λ i. series_asks g.D.Middle.Ord.cmp (number (c.in_ok-start.ensures.prime i)) (g.T.Reduction.maps c.args.m.now.second.now).h (difference g.D.Big.Ord.cmp g.D.Middle.Ord.cmp (g.D.FirstMaps.maps c.args.m.now.first.now) (c.args.n + 2)) (g.T.Reduction.lists c.args.m.now.second.now).h (λ x. []) (c.args.n + 1) (c.in_ok-start.ensures.value i)) c.in_err-sum.ensures.source)))

pub apply-requires-clause-keys : goal.apply-requires-clause-keys
apply-requires-clause-keys g c =
    subst (Each (g.T.Reduction.may_ask_big c.args.m.now.second.now)) (sym (c.in_ok-sum.ensures.sum ∙ (λ i. series g.D.Middle.Ord.cmp (number (c.in_ok-start.ensures.prime i)) (c.args.n + 1) (after (difference g.D.Big.Ord.cmp g.D.Middle.Ord.cmp (g.D.FirstMaps.maps c.args.m.now.first.now) (c.args.n + 2)) (g.T.Reduction.maps c.args.m.now.second.now).h) (c.in_ok-start.ensures.value i))))
    (series_keys (number (g.D.FirstMaps.maps c.args.m.now.first.now).prime) (number_pos (g.D.FirstMaps.maps c.args.m.now.first.now).prime) g.D.Middle.Ord.cmp g.met.D.FirstMaps.one_middle g.met.D.Middle.Ord.total (g.T.Reduction.maps c.args.m.now.second.now).h (difference g.D.Big.Ord.cmp g.D.Middle.Ord.cmp (g.D.FirstMaps.maps c.args.m.now.first.now) (c.args.n + 2)) g.S.Source.refusal (g.T.Reduction.lists c.args.m.now.second.now).h (λ x. []) (g.T.Reduction.may_ask_big c.args.m.now.second.now) (MayDiffer g.D.Big.Ord.cmp g.D.Middle.Ord.cmp (g.D.FirstMaps.maps c.args.m.now.first.now) (c.args.n + 2)) (c.args.n + 1) (f_start g.D.Big.Ord.cmp g.D.Middle.Ord.cmp (g.D.FirstMaps.maps c.args.m.now.first.now) (g.T.Reduction.maps c.args.m.now.second.now) c.args.n c.args.c.now.terms) c.requires.keys.1
    (all_same g.S.Source.can_ask g.S.Source.runs g.S.Source.refusal _ _ _ _ (λ i. series_asks g.D.Middle.Ord.cmp (number (c.in_ok-start.ensures.prime i)) (g.T.Reduction.maps c.args.m.now.second.now).h (difference g.D.Big.Ord.cmp g.D.Middle.Ord.cmp (g.D.FirstMaps.maps c.args.m.now.first.now) (c.args.n + 2)) (g.T.Reduction.lists c.args.m.now.second.now).h (λ x. []) (c.args.n + 1) (c.in_ok-start.ensures.value i)) c.in_ok-sum.ensures.source).granted)

pub apply-requires-clause-source : goal.apply-requires-clause-source
apply-requires-clause-source g c =
    may_same g.S.Source.can_ask g.S.Source.runs g.S.Source.refusal _ _ _ (ap (asks_along (g.T.Reduction.lists c.args.m.now.second.now).f) (c.in_ok-sum.ensures.sum ∙ (λ i. series g.D.Middle.Ord.cmp (number (c.in_ok-start.ensures.prime i)) (c.args.n + 1) (after (difference g.D.Big.Ord.cmp g.D.Middle.Ord.cmp (g.D.FirstMaps.maps c.args.m.now.first.now) (c.args.n + 2)) (g.T.Reduction.maps c.args.m.now.second.now).h) (c.in_ok-start.ensures.value i)))) (MayAsk-rest g.S.Source.can_ask g.S.Source.runs g.S.Source.refusal g.S.Source.runs_both _ _ _ _ c.requires.source (all_same g.S.Source.can_ask g.S.Source.runs g.S.Source.refusal _ _ _ _ (λ i. series_asks g.D.Middle.Ord.cmp (number (c.in_ok-start.ensures.prime i)) (g.T.Reduction.maps c.args.m.now.second.now).h (difference g.D.Big.Ord.cmp g.D.Middle.Ord.cmp (g.D.FirstMaps.maps c.args.m.now.first.now) (c.args.n + 2)) (g.T.Reduction.lists c.args.m.now.second.now).h (λ x. []) (c.args.n + 1) (c.in_ok-start.ensures.value i)) c.in_ok-sum.ensures.source).ran)

pub returns-clause-value : goal.returns-clause-value
returns-clause-value g c = IfOk-weaker c.apply.result _ _ (λ s e.
    e ∙ (λ i. normal g.T.Small.Ord.cmp (number ((c.in_ok-sum.ensures.prime ∙ c.in_ok-start.ensures.prime) i)) (extend (g.T.Reduction.maps c.args.m.now.second.now).f ((c.in_ok-sum.ensures.sum ∙ (λ i. series g.D.Middle.Ord.cmp (number (c.in_ok-start.ensures.prime i)) (c.args.n + 1) (after (difference g.D.Big.Ord.cmp g.D.Middle.Ord.cmp (g.D.FirstMaps.maps c.args.m.now.first.now) (c.args.n + 2)) (g.T.Reduction.maps c.args.m.now.second.now).h) (c.in_ok-start.ensures.value i))) i)))) c.apply.ensures.sum

pub returns-clause-source : goal.returns-clause-source
returns-clause-source g c =
    asked_after g.S.Source.can_ask g.S.Source.runs g.S.Source.refusal g.S.Source.runs_both g.T.Stop.Stops.refused _ _ _ _ _ c.apply.result (all_same g.S.Source.can_ask g.S.Source.runs g.S.Source.refusal _ _ _ _ (λ i. series_asks g.D.Middle.Ord.cmp (number (c.in_ok-start.ensures.prime i)) (g.T.Reduction.maps c.args.m.now.second.now).h (difference g.D.Big.Ord.cmp g.D.Middle.Ord.cmp (g.D.FirstMaps.maps c.args.m.now.first.now) (c.args.n + 2)) (g.T.Reduction.lists c.args.m.now.second.now).h (λ x. []) (c.args.n + 1) (c.in_ok-start.ensures.value i)) c.in_ok-sum.ensures.source)
    (asked_same g.S.Source.can_ask g.S.Source.runs g.S.Source.refusal g.T.Stop.Stops.refused _ _ _ _ c.apply.result (ap (asks_along (g.T.Reduction.lists c.args.m.now.second.now).f) (c.in_ok-sum.ensures.sum ∙ (λ i. series g.D.Middle.Ord.cmp (number (c.in_ok-start.ensures.prime i)) (c.args.n + 1) (after (difference g.D.Big.Ord.cmp g.D.Middle.Ord.cmp (g.D.FirstMaps.maps c.args.m.now.first.now) (c.args.n + 2)) (g.T.Reduction.maps c.args.m.now.second.now).h) (c.in_ok-start.ensures.value i)))) c.apply.ensures.source)
