use Rattle.std.proofs.Common.{None, sym, ◌∙◌, ap}
use Rattle.std.proofs.lemmas.Result.{IfOk-weaker}
use Rattle.fp_field.specs.Field.{number}
use Rattle.fp_field.specs.Chains.{extend}
use Rattle.fp_field.specs.Normal.{normal}
use Rattle.fp_field.specs.Reduction.{after}
use Rattle.fp_field.specs.Series.{series}
use Rattle.reduct_laws.proofs.Rebased.{Each-so}
use Rattle.perturb.specs.PerturbedLists.{series_may_ask}
use Rattle.perturb.proofs.SeriesValues.{carry}
use Rattle.twice_perturbed.proofs.FirstSeries.{may-series, within-image}
use Rattle.twice_perturbed.proofs.first.FirstFirstMaps.lifted.Goals as goal

pub apply-requires-clause-keys : goal.apply-requires-clause-keys
apply-requires-clause-keys g c = Each-so c.args.c.now.terms (λ k x. x.0) c.requires.keys

pub series-requires-clause-keys : goal.series-requires-clause-keys
series-requires-clause-keys g c =
    carry (λ v d. series_may_ask g.Z.Big.Ord.cmp (number v) (g.Q.Perturb.delta_of c.args.self.now.twist.now) (g.Z.Reduction.maps c.args.self.now.of.now).h (λ x. None) (g.Q.Perturb.asks c.args.self.now.twist.now) (g.Z.Reduction.lists c.args.self.now.of.now).h (g.Q.Perturb.may_be_asked c.args.self.now.twist.now) (g.Z.Reduction.may_ask_big c.args.self.now.of.now) c.args.rank d) (sym (c.in_ok-start.ensures.prime ∙ c.requires.prime)) (sym (c.in_ok-start.ensures.sum ∙ ap (λ v. normal g.Z.Big.Ord.cmp (number v) (extend (g.Z.Reduction.maps c.args.self.now.of.now).g c.args.c.now.terms)) c.requires.prime))
    (may-series g.Z.Big.Ord.cmp (number (g.Z.Reduction.prime_of c.args.self.now.of.now)) (g.Q.Perturb.delta_of c.args.self.now.twist.now) (g.Z.Reduction.maps c.args.self.now.of.now).h (g.Q.Perturb.may_be_asked c.args.self.now.twist.now) (g.Z.Reduction.may_ask_big c.args.self.now.of.now) (λ x. None) (g.Q.Perturb.asks c.args.self.now.twist.now) (g.Z.Reduction.lists c.args.self.now.of.now).h c.args.rank (normal g.Z.Big.Ord.cmp (number (g.Z.Reduction.prime_of c.args.self.now.of.now)) (extend (g.Z.Reduction.maps c.args.self.now.of.now).g c.args.c.now.terms)) (within-image g.Z.Big.Ord.cmp g.met.Z.Reduction.one_big g.met.Z.Big.Ord.total (g.Z.Reduction.prime_of c.args.self.now.of.now) (g.Q.Perturb.delta_of c.args.self.now.twist.now) (g.Z.Reduction.maps c.args.self.now.of.now).h (g.Q.Perturb.may_be_asked c.args.self.now.twist.now) (g.Z.Reduction.may_ask_big c.args.self.now.of.now) c.args.rank (g.Z.Reduction.maps c.args.self.now.of.now).g c.args.c.now.terms (Each-so c.args.c.now.terms (λ k x. x.1) c.requires.keys)))

pub returns-clause-value : goal.returns-clause-value
returns-clause-value g c = IfOk-weaker c.series.result _ _ (λ s e. e ∙ (λ i. series g.Z.Big.Ord.cmp (number ((c.in_ok-start.ensures.prime ∙ c.requires.prime) i)) c.args.rank (after (g.Z.Reduction.maps c.args.self.now.of.now).h (g.Q.Perturb.delta_of c.args.self.now.twist.now)) ((c.in_ok-start.ensures.sum ∙ ap (λ v. normal g.Z.Big.Ord.cmp (number v) (extend (g.Z.Reduction.maps c.args.self.now.of.now).g c.args.c.now.terms)) c.requires.prime) i))) c.series.ensures.sum
