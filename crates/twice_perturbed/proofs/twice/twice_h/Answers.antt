use Rattle.std.proofs.Common.{◌+◌, [], ◌++◌, sym, ◌∙◌, ap, subst}
use Rattle.fp_field.specs.Field.{number}
use Rattle.fp_field.specs.Chains.{extend, Each}
use Rattle.fp_field.specs.Normal.{normal}
use Rattle.fp_field.specs.Reduction.{after}
use Rattle.fp_field.specs.Series.{series}
use Rattle.fp_field.proofs.Primes.{number_pos}
use Rattle.chain_core.specs.Asks.{asks_along}
use Rattle.chain_core.proofs.AskLemmas.{AskedAll-both, MayAsk-rest, MayAsk-first, until_first, until_after, part_of_whole}
use Rattle.reduct_laws.proofs.AskSteps.{asked_exit}
use Rattle.reduct_laws.proofs.Rebased.{Each-so}
use Rattle.perturb.specs.PerturbedLists.{series_asks, series_may_ask}
use Rattle.perturb.proofs.SeriesValues.{carry, nothing_asked, series_keys, may_same, all_same, until_same}
use Rattle.twice_perturbed.specs.Firsts.{difference, MayDiffer, MayLift, lifted}
use Rattle.twice_perturbed.specs.Twice.{h_start}
use Rattle.twice_perturbed.proofs.twice.twice_h.Goals as goal

pub returns-in_err-raised-clause-source : goal.returns-in_err-raised-clause-source
returns-in_err-raised-clause-source g c =
    asked_exit g.S.Source.can_ask g.S.Source.runs g.S.Source.refusal g.S.Source.runs_both g.T.Stop.Stops.refused _ _ _ c.from_residual.result c.from_residual.ensures.1 (λ e is.
    rw (g.met.T.Stop.Stops.memory _ _ is)
    (nothing_asked g.S.Source.runs g.S.Source.refusal g.S.Source.runs_none _ _))

pub returns-in_err-start-clause-source : goal.returns-in_err-start-clause-source
returns-in_err-start-clause-source g c =
    asked_exit g.S.Source.can_ask g.S.Source.runs g.S.Source.refusal g.S.Source.runs_both g.T.Stop.Stops.refused _ _ _ c.from_residual-in_err-start.result c.from_residual-in_err-start.ensures.1 (λ e is.
    rw (g.met.T.Stop.Stops.memory _ _ is)
    (nothing_asked g.S.Source.runs g.S.Source.refusal g.S.Source.runs_none _ _))

pub apply-requires-clause-keys : goal.apply-requires-clause-keys
apply-requires-clause-keys g c = subst (Each (g.T.Reduction.may_ask_big c.args.m.now.second.now)) (sym c.in_ok-start.ensures.value) c.requires.keys.2

pub apply-requires-clause-source : goal.apply-requires-clause-source
apply-requires-clause-source g c = may_same g.S.Source.can_ask g.S.Source.runs g.S.Source.refusal _ _ _ (ap (asks_along (g.T.Reduction.lists c.args.m.now.second.now).h) c.in_ok-start.ensures.value) (MayAsk-first g.S.Source.can_ask g.S.Source.runs g.S.Source.refusal g.S.Source.runs_both _ _ _ c.requires.source)

pub returns-in_err-middle-clause-source : goal.returns-in_err-middle-clause-source
returns-in_err-middle-clause-source g c =
    asked_exit g.S.Source.can_ask g.S.Source.runs g.S.Source.refusal g.S.Source.runs_both g.T.Stop.Stops.refused _ _ _ c.from_residual-in_err-middle.result c.from_residual-in_err-middle.ensures.1 (λ e is.
    rw is
    (until_first g.S.Source.can_ask g.S.Source.runs g.S.Source.refusal g.S.Source.runs_both _ _ _ _ (g.T.Stop.Stops.refused c.in_err-middle.field-0.0) (until_same g.S.Source.can_ask g.S.Source.runs g.S.Source.refusal _ _ _ _ (g.T.Stop.Stops.refused c.in_err-middle.field-0.0) (ap (asks_along (g.T.Reduction.lists c.args.m.now.second.now).h) c.in_ok-start.ensures.value) c.in_err-middle.ensures.source)))

pub series_along-requires-clause-keys : goal.series_along-requires-clause-keys
series_along-requires-clause-keys g c =
    carry (λ v d. series_may_ask g.D.Middle.Ord.cmp (number v) (difference g.D.Big.Ord.cmp g.D.Middle.Ord.cmp (g.D.FirstMaps.maps c.args.m.now.first.now) (c.args.n + 2)) (g.T.Reduction.maps c.args.m.now.second.now).h g.S.Source.refusal (λ x. []) (g.T.Reduction.lists c.args.m.now.second.now).h (MayDiffer g.D.Big.Ord.cmp g.D.Middle.Ord.cmp (g.D.FirstMaps.maps c.args.m.now.first.now) (c.args.n + 2)) (g.T.Reduction.may_ask_big c.args.m.now.second.now) (c.args.n + 2) d) (sym (c.in_ok-middle.ensures.prime ∙ c.in_ok-start.ensures.prime)) (sym (c.in_ok-middle.ensures.sum ∙ (λ i. normal g.D.Middle.Ord.cmp (number (c.in_ok-start.ensures.prime i)) (extend (g.T.Reduction.maps c.args.m.now.second.now).h (c.in_ok-start.ensures.value i))))) (c.requires.keys.3 (all_same g.S.Source.can_ask g.S.Source.runs g.S.Source.refusal _ _ _ _ (ap (asks_along (g.T.Reduction.lists c.args.m.now.second.now).h) c.in_ok-start.ensures.value) c.in_ok-middle.ensures.source).granted)

pub series_along-requires-clause-source : goal.series_along-requires-clause-source
series_along-requires-clause-source g c = may_same g.S.Source.can_ask g.S.Source.runs g.S.Source.refusal _ _ _ (λ i. series_asks g.D.Middle.Ord.cmp (number ((c.in_ok-middle.ensures.prime ∙ c.in_ok-start.ensures.prime) i)) (difference g.D.Big.Ord.cmp g.D.Middle.Ord.cmp (g.D.FirstMaps.maps c.args.m.now.first.now) (c.args.n + 2)) (g.T.Reduction.maps c.args.m.now.second.now).h (λ x. []) (g.T.Reduction.lists c.args.m.now.second.now).h (c.args.n + 2) ((c.in_ok-middle.ensures.sum ∙ (λ i. normal g.D.Middle.Ord.cmp (number (c.in_ok-start.ensures.prime i)) (extend (g.T.Reduction.maps c.args.m.now.second.now).h (c.in_ok-start.ensures.value i)))) i)) (MayAsk-rest g.S.Source.can_ask g.S.Source.runs g.S.Source.refusal g.S.Source.runs_both _ _ _ _ c.requires.source (all_same g.S.Source.can_ask g.S.Source.runs g.S.Source.refusal _ _ _ _ (ap (asks_along (g.T.Reduction.lists c.args.m.now.second.now).h) c.in_ok-start.ensures.value) c.in_ok-middle.ensures.source).ran)

pub returns-in_err-sum-clause-source : goal.returns-in_err-sum-clause-source
returns-in_err-sum-clause-source g c =
    asked_exit g.S.Source.can_ask g.S.Source.runs g.S.Source.refusal g.S.Source.runs_both g.T.Stop.Stops.refused _ _ _ c.from_residual-in_err-sum.result c.from_residual-in_err-sum.ensures.1 (λ e is.
    rw is
    (until_after g.S.Source.can_ask g.S.Source.runs g.S.Source.refusal g.S.Source.runs_both _ _ _ _ _ (g.T.Stop.Stops.refused c.in_err-sum.field-0.0) (all_same g.S.Source.can_ask g.S.Source.runs g.S.Source.refusal _ _ _ _ (ap (asks_along (g.T.Reduction.lists c.args.m.now.second.now).h) c.in_ok-start.ensures.value) c.in_ok-middle.ensures.source) (until_same g.S.Source.can_ask g.S.Source.runs g.S.Source.refusal _ _ _ _ (g.T.Stop.Stops.refused c.in_err-sum.field-0.0) (λ i. series_asks g.D.Middle.Ord.cmp (number ((c.in_ok-middle.ensures.prime ∙ c.in_ok-start.ensures.prime) i)) (difference g.D.Big.Ord.cmp g.D.Middle.Ord.cmp (g.D.FirstMaps.maps c.args.m.now.first.now) (c.args.n + 2)) (g.T.Reduction.maps c.args.m.now.second.now).h (λ x. []) (g.T.Reduction.lists c.args.m.now.second.now).h (c.args.n + 2) ((c.in_ok-middle.ensures.sum ∙ (λ i. normal g.D.Middle.Ord.cmp (number (c.in_ok-start.ensures.prime i)) (extend (g.T.Reduction.maps c.args.m.now.second.now).h (c.in_ok-start.ensures.value i)))) i)) c.in_err-sum.ensures.source)))

pub lifted-requires-clause-keys : goal.lifted-requires-clause-keys
lifted-requires-clause-keys g c =
    subst (Each (MayLift g.D.Big.Ord.cmp g.D.Middle.Ord.cmp (g.D.FirstMaps.maps c.args.m.now.first.now) (c.args.n + 2))) (sym (c.in_ok-sum.ensures.sum ∙ (λ i. series g.D.Middle.Ord.cmp (number ((c.in_ok-middle.ensures.prime ∙ c.in_ok-start.ensures.prime) i)) (c.args.n + 2) (after (g.T.Reduction.maps c.args.m.now.second.now).h (difference g.D.Big.Ord.cmp g.D.Middle.Ord.cmp (g.D.FirstMaps.maps c.args.m.now.first.now) (c.args.n + 2))) ((c.in_ok-middle.ensures.sum ∙ (λ i. normal g.D.Middle.Ord.cmp (number (c.in_ok-start.ensures.prime i)) (extend (g.T.Reduction.maps c.args.m.now.second.now).h (c.in_ok-start.ensures.value i)))) i))))
    (Each-so (series g.D.Middle.Ord.cmp (number (g.D.FirstMaps.maps c.args.m.now.first.now).prime) (c.args.n + 2) (after (g.T.Reduction.maps c.args.m.now.second.now).h (difference g.D.Big.Ord.cmp g.D.Middle.Ord.cmp (g.D.FirstMaps.maps c.args.m.now.first.now) (c.args.n + 2))) (h_start g.D.Big.Ord.cmp g.D.Middle.Ord.cmp (g.D.FirstMaps.maps c.args.m.now.first.now) (g.T.Reduction.maps c.args.m.now.second.now) c.args.n c.args.c.now.terms)) (λ k x. x.1)
    (series_keys (number (g.D.FirstMaps.maps c.args.m.now.first.now).prime) (number_pos (g.D.FirstMaps.maps c.args.m.now.first.now).prime) g.D.Middle.Ord.cmp g.met.D.FirstMaps.one_middle g.met.D.Middle.Ord.total (difference g.D.Big.Ord.cmp g.D.Middle.Ord.cmp (g.D.FirstMaps.maps c.args.m.now.first.now) (c.args.n + 2)) (g.T.Reduction.maps c.args.m.now.second.now).h g.S.Source.refusal (λ x. []) (g.T.Reduction.lists c.args.m.now.second.now).h (MayDiffer g.D.Big.Ord.cmp g.D.Middle.Ord.cmp (g.D.FirstMaps.maps c.args.m.now.first.now) (c.args.n + 2)) (g.T.Reduction.may_ask_big c.args.m.now.second.now) (c.args.n + 2) (h_start g.D.Big.Ord.cmp g.D.Middle.Ord.cmp (g.D.FirstMaps.maps c.args.m.now.first.now) (g.T.Reduction.maps c.args.m.now.second.now) c.args.n c.args.c.now.terms)
    (c.requires.keys.3 (all_same g.S.Source.can_ask g.S.Source.runs g.S.Source.refusal _ _ _ _ (ap (asks_along (g.T.Reduction.lists c.args.m.now.second.now).h) c.in_ok-start.ensures.value) c.in_ok-middle.ensures.source).granted) (all_same g.S.Source.can_ask g.S.Source.runs g.S.Source.refusal _ _ _ _ (λ i. series_asks g.D.Middle.Ord.cmp (number ((c.in_ok-middle.ensures.prime ∙ c.in_ok-start.ensures.prime) i)) (difference g.D.Big.Ord.cmp g.D.Middle.Ord.cmp (g.D.FirstMaps.maps c.args.m.now.first.now) (c.args.n + 2)) (g.T.Reduction.maps c.args.m.now.second.now).h (λ x. []) (g.T.Reduction.lists c.args.m.now.second.now).h (c.args.n + 2) ((c.in_ok-middle.ensures.sum ∙ (λ i. normal g.D.Middle.Ord.cmp (number (c.in_ok-start.ensures.prime i)) (extend (g.T.Reduction.maps c.args.m.now.second.now).h (c.in_ok-start.ensures.value i)))) i)) c.in_ok-sum.ensures.source).granted))

pub returns-in_err-lifted-clause-source : goal.returns-in_err-lifted-clause-source
returns-in_err-lifted-clause-source g c =
    asked_exit g.S.Source.can_ask g.S.Source.runs g.S.Source.refusal g.S.Source.runs_both g.T.Stop.Stops.refused _ _ _ c.from_residual-in_err-lifted.result c.from_residual-in_err-lifted.ensures.1 (λ e is.
    rw (g.met.T.Stop.Stops.memory _ _ is)
    (part_of_whole g.S.Source.can_ask g.S.Source.runs g.S.Source.refusal g.S.Source.runs_both _ _ _ (AskedAll-both g.S.Source.can_ask g.S.Source.runs g.S.Source.refusal g.S.Source.runs_both _ _ _ _ _ (all_same g.S.Source.can_ask g.S.Source.runs g.S.Source.refusal _ _ _ _ (ap (asks_along (g.T.Reduction.lists c.args.m.now.second.now).h) c.in_ok-start.ensures.value) c.in_ok-middle.ensures.source) (all_same g.S.Source.can_ask g.S.Source.runs g.S.Source.refusal _ _ _ _ (λ i. series_asks g.D.Middle.Ord.cmp (number ((c.in_ok-middle.ensures.prime ∙ c.in_ok-start.ensures.prime) i)) (difference g.D.Big.Ord.cmp g.D.Middle.Ord.cmp (g.D.FirstMaps.maps c.args.m.now.first.now) (c.args.n + 2)) (g.T.Reduction.maps c.args.m.now.second.now).h (λ x. []) (g.T.Reduction.lists c.args.m.now.second.now).h (c.args.n + 2) ((c.in_ok-middle.ensures.sum ∙ (λ i. normal g.D.Middle.Ord.cmp (number (c.in_ok-start.ensures.prime i)) (extend (g.T.Reduction.maps c.args.m.now.second.now).h (c.in_ok-start.ensures.value i)))) i)) c.in_ok-sum.ensures.source))))

pub returns-in_err-sum_of-clause-source : goal.returns-in_err-sum_of-clause-source
returns-in_err-sum_of-clause-source g c =
    asked_exit g.S.Source.can_ask g.S.Source.runs g.S.Source.refusal g.S.Source.runs_both g.T.Stop.Stops.refused _ _ _ c.from_residual-in_err-sum_of.result c.from_residual-in_err-sum_of.ensures.1 (λ e is.
    rw (g.met.T.Stop.Stops.memory _ _ is)
    (part_of_whole g.S.Source.can_ask g.S.Source.runs g.S.Source.refusal g.S.Source.runs_both _ _ _ (AskedAll-both g.S.Source.can_ask g.S.Source.runs g.S.Source.refusal g.S.Source.runs_both _ _ _ _ _ (all_same g.S.Source.can_ask g.S.Source.runs g.S.Source.refusal _ _ _ _ (ap (asks_along (g.T.Reduction.lists c.args.m.now.second.now).h) c.in_ok-start.ensures.value) c.in_ok-middle.ensures.source) (all_same g.S.Source.can_ask g.S.Source.runs g.S.Source.refusal _ _ _ _ (λ i. series_asks g.D.Middle.Ord.cmp (number ((c.in_ok-middle.ensures.prime ∙ c.in_ok-start.ensures.prime) i)) (difference g.D.Big.Ord.cmp g.D.Middle.Ord.cmp (g.D.FirstMaps.maps c.args.m.now.first.now) (c.args.n + 2)) (g.T.Reduction.maps c.args.m.now.second.now).h (λ x. []) (g.T.Reduction.lists c.args.m.now.second.now).h (c.args.n + 2) ((c.in_ok-middle.ensures.sum ∙ (λ i. normal g.D.Middle.Ord.cmp (number (c.in_ok-start.ensures.prime i)) (extend (g.T.Reduction.maps c.args.m.now.second.now).h (c.in_ok-start.ensures.value i)))) i)) c.in_ok-sum.ensures.source))))

pub returns-clause-value : goal.returns-clause-value
returns-clause-value g c =
    c.in_ok-sum_of.ensures.sum ∙ (λ i. normal g.D.Big.Ord.cmp (number (c.in_ok-raised.ensures.prime i)) (c.in_ok-raised.ensures.value i ++ (c.in_ok-lifted.ensures.value ∙ ap (lifted g.D.Big.Ord.cmp g.D.Middle.Ord.cmp (g.D.FirstMaps.maps c.args.m.now.first.now) (c.args.n + 2)) (c.in_ok-sum.ensures.sum ∙ (λ i. series g.D.Middle.Ord.cmp (number ((c.in_ok-middle.ensures.prime ∙ c.in_ok-start.ensures.prime) i)) (c.args.n + 2) (after (g.T.Reduction.maps c.args.m.now.second.now).h (difference g.D.Big.Ord.cmp g.D.Middle.Ord.cmp (g.D.FirstMaps.maps c.args.m.now.first.now) (c.args.n + 2))) ((c.in_ok-middle.ensures.sum ∙ (λ i. normal g.D.Middle.Ord.cmp (number (c.in_ok-start.ensures.prime i)) (extend (g.T.Reduction.maps c.args.m.now.second.now).h (c.in_ok-start.ensures.value i)))) i)))) i))

pub returns-clause-source : goal.returns-clause-source
returns-clause-source g c = (AskedAll-both g.S.Source.can_ask g.S.Source.runs g.S.Source.refusal g.S.Source.runs_both _ _ _ _ _ (all_same g.S.Source.can_ask g.S.Source.runs g.S.Source.refusal _ _ _ _ (ap (asks_along (g.T.Reduction.lists c.args.m.now.second.now).h) c.in_ok-start.ensures.value) c.in_ok-middle.ensures.source) (all_same g.S.Source.can_ask g.S.Source.runs g.S.Source.refusal _ _ _ _ (λ i. series_asks g.D.Middle.Ord.cmp (number ((c.in_ok-middle.ensures.prime ∙ c.in_ok-start.ensures.prime) i)) (difference g.D.Big.Ord.cmp g.D.Middle.Ord.cmp (g.D.FirstMaps.maps c.args.m.now.first.now) (c.args.n + 2)) (g.T.Reduction.maps c.args.m.now.second.now).h (λ x. []) (g.T.Reduction.lists c.args.m.now.second.now).h (c.args.n + 2) ((c.in_ok-middle.ensures.sum ∙ (λ i. normal g.D.Middle.Ord.cmp (number (c.in_ok-start.ensures.prime i)) (extend (g.T.Reduction.maps c.args.m.now.second.now).h (c.in_ok-start.ensures.value i)))) i)) c.in_ok-sum.ensures.source))
