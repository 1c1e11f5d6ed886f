use Rattle.std.proofs.Common.{◌+◌, [], sym, ◌∙◌, subst}
use Rattle.std.proofs.lemmas.Result.{IfOk-weaker}
use Rattle.fp_field.specs.Field.{number}
use Rattle.fp_field.specs.Normal.{normal}
use Rattle.perturb.specs.Perturbation.{perturbed_by}
use Rattle.perturb.specs.PerturbedLists.{series_may_ask, perturbed_d_asks}
use Rattle.perturb.proofs.SeriesValues.{may_same, asked_same}
use Rattle.twice_perturbed.specs.Firsts.{difference, MayDiffer}
use Rattle.twice_perturbed.proofs.twice.twice_d.Goals as goal

pub d_along-requires-clause-keys : goal.d_along-requires-clause-keys
d_along-requires-clause-keys g c = λ none. subst (λ v. series_may_ask g.D.Middle.Ord.cmp (number v) (difference g.D.Big.Ord.cmp g.D.Middle.Ord.cmp (g.D.FirstMaps.maps c.args.m.now.first.now) (c.args.n + 1)) (g.T.Reduction.maps c.args.m.now.second.now).h g.S.Source.refusal (λ x. []) (g.T.Reduction.lists c.args.m.now.second.now).h (MayDiffer g.D.Big.Ord.cmp g.D.Middle.Ord.cmp (g.D.FirstMaps.maps c.args.m.now.first.now) (c.args.n + 1)) (g.T.Reduction.may_ask_big c.args.m.now.second.now) (c.args.n + 1) (normal g.D.Middle.Ord.cmp (number v) ((g.T.Reduction.maps c.args.m.now.second.now).g c.args.y.now))) (sym c.requires.primes) (c.requires.keys none)

pub d_along-requires-clause-source : goal.d_along-requires-clause-source
d_along-requires-clause-source g c = may_same g.S.Source.can_ask g.S.Source.runs g.S.Source.refusal _ _ _ (λ i. perturbed_d_asks g.D.Middle.Ord.cmp (number (c.requires.primes i)) (c.args.n + 1) (g.T.Reduction.maps c.args.m.now.second.now) (difference g.D.Big.Ord.cmp g.D.Middle.Ord.cmp (g.D.FirstMaps.maps c.args.m.now.first.now) (c.args.n + 1)) (g.T.Reduction.lists c.args.m.now.second.now) (λ x. []) c.args.y.now) c.requires.source

pub returns-clause-value : goal.returns-clause-value
returns-clause-value g c = IfOk-weaker c.d_along.result _ _ (λ s e.
    e ∙ (λ i. normal g.T.Small.Ord.cmp (number (c.requires.primes i)) ((perturbed_by g.D.Middle.Ord.cmp (number (c.requires.primes i)) (λ z. c.args.n + 1) (g.T.Reduction.maps c.args.m.now.second.now) (difference g.D.Big.Ord.cmp g.D.Middle.Ord.cmp (g.D.FirstMaps.maps c.args.m.now.first.now) (c.args.n + 1))).small.d c.args.y.now))) c.d_along.ensures.value

pub returns-clause-source : goal.returns-clause-source
returns-clause-source g c = asked_same g.S.Source.can_ask g.S.Source.runs g.S.Source.refusal g.T.Stop.Stops.refused _ _ _ _ c.d_along.result (λ i. perturbed_d_asks g.D.Middle.Ord.cmp (number (c.requires.primes i)) (c.args.n + 1) (g.T.Reduction.maps c.args.m.now.second.now) (difference g.D.Big.Ord.cmp g.D.Middle.Ord.cmp (g.D.FirstMaps.maps c.args.m.now.first.now) (c.args.n + 1)) (g.T.Reduction.lists c.args.m.now.second.now) (λ x. []) c.args.y.now) c.d_along.ensures.source
