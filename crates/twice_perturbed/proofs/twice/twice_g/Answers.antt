use Rattle.std.proofs.Common.{◌+◌, [], sym, ◌∙◌, ap, subst}
use Rattle.fp_field.specs.Field.{number}
use Rattle.fp_field.specs.Chains.{Each}
use Rattle.fp_field.specs.Normal.{normal}
use Rattle.fp_field.specs.Reduction.{after}
use Rattle.fp_field.specs.Series.{series}
use Rattle.fp_field.proofs.Primes.{number_pos}
use Rattle.chain_core.proofs.AskLemmas.{part_of_whole}
use Rattle.reduct_laws.proofs.AskSteps.{asked_exit}
use Rattle.reduct_laws.proofs.Rebased.{Each-so}
use Rattle.perturb.specs.Perturbation.{perturbed_by}
use Rattle.perturb.specs.PerturbedLists.{series_may_ask, perturbed_g_asks}
use Rattle.perturb.proofs.SeriesValues.{none-first, none-rest, series_keys, series-linear, may_same, all_same, until_same}
use Rattle.twice_perturbed.specs.Firsts.{difference, MayDiffer, MayLift, lifted}
use Rattle.twice_perturbed.proofs.twice.twice_g.Goals as goal

pub g_along-requires-clause-keys : goal.g_along-requires-clause-keys
g_along-requires-clause-keys g c = λ none. subst (λ v. series_may_ask g.D.Middle.Ord.cmp (number v) (difference g.D.Big.Ord.cmp g.D.Middle.Ord.cmp (g.D.FirstMaps.maps c.args.m.now.first.now) (c.args.n + 1)) (g.T.Reduction.maps c.args.m.now.second.now).h g.S.Source.refusal (λ x. []) (g.T.Reduction.lists c.args.m.now.second.now).h (MayDiffer g.D.Big.Ord.cmp g.D.Middle.Ord.cmp (g.D.FirstMaps.maps c.args.m.now.first.now) (c.args.n + 1)) (g.T.Reduction.may_ask_big c.args.m.now.second.now) (c.args.n + 1) (normal g.D.Middle.Ord.cmp (number v) ((g.T.Reduction.maps c.args.m.now.second.now).g c.args.y.now))) (sym c.requires.primes) (c.requires.keys none)

pub g_along-requires-clause-source : goal.g_along-requires-clause-source
g_along-requires-clause-source g c = may_same g.S.Source.can_ask g.S.Source.runs g.S.Source.refusal _ _ _ (λ i. perturbed_g_asks g.D.Middle.Ord.cmp (number (c.requires.primes i)) (c.args.n + 1) (g.T.Reduction.maps c.args.m.now.second.now) (difference g.D.Big.Ord.cmp g.D.Middle.Ord.cmp (g.D.FirstMaps.maps c.args.m.now.first.now) (c.args.n + 1)) (g.T.Reduction.lists c.args.m.now.second.now) (λ x. []) c.args.y.now) c.requires.source

pub returns-in_err-middle-clause-source : goal.returns-in_err-middle-clause-source
returns-in_err-middle-clause-source g c =
    asked_exit g.S.Source.can_ask g.S.Source.runs g.S.Source.refusal g.S.Source.runs_both g.T.Stop.Stops.refused _ _ _ c.from_residual.result c.from_residual.ensures.1 (λ e is.
    rw is
    (until_same g.S.Source.can_ask g.S.Source.runs g.S.Source.refusal _ _ _ _ (g.T.Stop.Stops.refused c.in_err-middle.field-0.0) (λ i. perturbed_g_asks g.D.Middle.Ord.cmp (number (c.requires.primes i)) (c.args.n + 1) (g.T.Reduction.maps c.args.m.now.second.now) (difference g.D.Big.Ord.cmp g.D.Middle.Ord.cmp (g.D.FirstMaps.maps c.args.m.now.first.now) (c.args.n + 1)) (g.T.Reduction.lists c.args.m.now.second.now) (λ x. []) c.args.y.now) c.in_err-middle.ensures.source))

pub lifted-requires-clause-keys : goal.lifted-requires-clause-keys
lifted-requires-clause-keys g c =
    subst (Each (MayLift g.D.Big.Ord.cmp g.D.Middle.Ord.cmp (g.D.FirstMaps.maps c.args.m.now.first.now) (c.args.n + 1))) (series-linear (number (g.D.FirstMaps.maps c.args.m.now.first.now).prime) (number_pos (g.D.FirstMaps.maps c.args.m.now.first.now).prime) g.D.Middle.Ord.cmp g.met.D.FirstMaps.one_middle g.met.D.Middle.Ord.total (after (g.T.Reduction.maps c.args.m.now.second.now).h (difference g.D.Big.Ord.cmp g.D.Middle.Ord.cmp (g.D.FirstMaps.maps c.args.m.now.first.now) (c.args.n + 1))) (c.args.n + 1) ((g.T.Reduction.maps c.args.m.now.second.now).g c.args.y.now) ∙ sym (c.in_ok-middle.ensures.value ∙ (λ i. normal g.D.Middle.Ord.cmp (number (c.requires.primes i)) ((perturbed_by g.D.Middle.Ord.cmp (number (c.requires.primes i)) (λ z. c.args.n + 1) (g.T.Reduction.maps c.args.m.now.second.now) (difference g.D.Big.Ord.cmp g.D.Middle.Ord.cmp (g.D.FirstMaps.maps c.args.m.now.first.now) (c.args.n + 1))).g c.args.y.now))))
    (Each-so (series g.D.Middle.Ord.cmp (number (g.D.FirstMaps.maps c.args.m.now.first.now).prime) (c.args.n + 1) (after (g.T.Reduction.maps c.args.m.now.second.now).h (difference g.D.Big.Ord.cmp g.D.Middle.Ord.cmp (g.D.FirstMaps.maps c.args.m.now.first.now) (c.args.n + 1))) (normal g.D.Middle.Ord.cmp (number (g.D.FirstMaps.maps c.args.m.now.first.now).prime) ((g.T.Reduction.maps c.args.m.now.second.now).g c.args.y.now))) (λ k x. x.1)
    (series_keys (number (g.D.FirstMaps.maps c.args.m.now.first.now).prime) (number_pos (g.D.FirstMaps.maps c.args.m.now.first.now).prime) g.D.Middle.Ord.cmp g.met.D.FirstMaps.one_middle g.met.D.Middle.Ord.total (difference g.D.Big.Ord.cmp g.D.Middle.Ord.cmp (g.D.FirstMaps.maps c.args.m.now.first.now) (c.args.n + 1)) (g.T.Reduction.maps c.args.m.now.second.now).h g.S.Source.refusal (λ x. []) (g.T.Reduction.lists c.args.m.now.second.now).h (MayDiffer g.D.Big.Ord.cmp g.D.Middle.Ord.cmp (g.D.FirstMaps.maps c.args.m.now.first.now) (c.args.n + 1)) (g.T.Reduction.may_ask_big c.args.m.now.second.now) (c.args.n + 1) (normal g.D.Middle.Ord.cmp (number (g.D.FirstMaps.maps c.args.m.now.first.now).prime) ((g.T.Reduction.maps c.args.m.now.second.now).g c.args.y.now))
    (c.requires.keys (none-first g.S.Source.refusal ((g.T.Reduction.lists c.args.m.now.second.now).g c.args.y.now) _ (all_same g.S.Source.can_ask g.S.Source.runs g.S.Source.refusal _ _ _ _ (λ i. perturbed_g_asks g.D.Middle.Ord.cmp (number (c.requires.primes i)) (c.args.n + 1) (g.T.Reduction.maps c.args.m.now.second.now) (difference g.D.Big.Ord.cmp g.D.Middle.Ord.cmp (g.D.FirstMaps.maps c.args.m.now.first.now) (c.args.n + 1)) (g.T.Reduction.lists c.args.m.now.second.now) (λ x. []) c.args.y.now) c.in_ok-middle.ensures.source).granted)) (none-rest g.S.Source.refusal ((g.T.Reduction.lists c.args.m.now.second.now).g c.args.y.now) _ (all_same g.S.Source.can_ask g.S.Source.runs g.S.Source.refusal _ _ _ _ (λ i. perturbed_g_asks g.D.Middle.Ord.cmp (number (c.requires.primes i)) (c.args.n + 1) (g.T.Reduction.maps c.args.m.now.second.now) (difference g.D.Big.Ord.cmp g.D.Middle.Ord.cmp (g.D.FirstMaps.maps c.args.m.now.first.now) (c.args.n + 1)) (g.T.Reduction.lists c.args.m.now.second.now) (λ x. []) c.args.y.now) c.in_ok-middle.ensures.source).granted)))

pub returns-in_err-lifted-clause-source : goal.returns-in_err-lifted-clause-source
returns-in_err-lifted-clause-source g c =
    asked_exit g.S.Source.can_ask g.S.Source.runs g.S.Source.refusal g.S.Source.runs_both g.T.Stop.Stops.refused _ _ _ c.from_residual-in_err-lifted.result c.from_residual-in_err-lifted.ensures.1 (λ e is.
    rw (g.met.T.Stop.Stops.memory _ _ is)
    (part_of_whole g.S.Source.can_ask g.S.Source.runs g.S.Source.refusal g.S.Source.runs_both _ _ _ (all_same g.S.Source.can_ask g.S.Source.runs g.S.Source.refusal _ _ _ _ (λ i. perturbed_g_asks g.D.Middle.Ord.cmp (number (c.requires.primes i)) (c.args.n + 1) (g.T.Reduction.maps c.args.m.now.second.now) (difference g.D.Big.Ord.cmp g.D.Middle.Ord.cmp (g.D.FirstMaps.maps c.args.m.now.first.now) (c.args.n + 1)) (g.T.Reduction.lists c.args.m.now.second.now) (λ x. []) c.args.y.now) c.in_ok-middle.ensures.source)))

pub returns-clause-value : goal.returns-clause-value
returns-clause-value g c = c.in_ok-lifted.ensures.value ∙ ap (lifted g.D.Big.Ord.cmp g.D.Middle.Ord.cmp (g.D.FirstMaps.maps c.args.m.now.first.now) (c.args.n + 1)) (c.in_ok-middle.ensures.value ∙ (λ i. normal g.D.Middle.Ord.cmp (number (c.requires.primes i)) ((perturbed_by g.D.Middle.Ord.cmp (number (c.requires.primes i)) (λ z. c.args.n + 1) (g.T.Reduction.maps c.args.m.now.second.now) (difference g.D.Big.Ord.cmp g.D.Middle.Ord.cmp (g.D.FirstMaps.maps c.args.m.now.first.now) (c.args.n + 1))).g c.args.y.now)))

pub returns-clause-source : goal.returns-clause-source
returns-clause-source g c = (all_same g.S.Source.can_ask g.S.Source.runs g.S.Source.refusal _ _ _ _ (λ i. perturbed_g_asks g.D.Middle.Ord.cmp (number (c.requires.primes i)) (c.args.n + 1) (g.T.Reduction.maps c.args.m.now.second.now) (difference g.D.Big.Ord.cmp g.D.Middle.Ord.cmp (g.D.FirstMaps.maps c.args.m.now.first.now) (c.args.n + 1)) (g.T.Reduction.lists c.args.m.now.second.now) (λ x. []) c.args.y.now) c.in_ok-middle.ensures.source)
