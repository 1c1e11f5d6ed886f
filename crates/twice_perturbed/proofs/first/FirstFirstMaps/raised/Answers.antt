use Rattle.std.proofs.Common.{None, sym, ◌∙◌, ap}
use Rattle.std.proofs.lemmas.Result.{IfOk-weaker}
use Rattle.fp_field.specs.Field.{number}
use Rattle.fp_field.specs.Chains.{extend}
use Rattle.fp_field.specs.Normal.{normal}
use Rattle.fp_field.specs.Reduction.{after}
use Rattle.fp_field.specs.Series.{series}
use Rattle.perturb.specs.PerturbedLists.{series_may_ask}
use Rattle.perturb.proofs.SeriesValues.{carry}
use Rattle.twice_perturbed.proofs.FirstSeries.{may-series}
use Rattle.twice_perturbed.proofs.first.FirstFirstMaps.raised.Goals as goal

pub series-requires-clause-keys : goal.series-requires-clause-keys
series-requires-clause-keys g c =
    carry (λ v d. series_may_ask g.Z.Big.Ord.cmp (number v) (g.Q.Perturb.delta_of c.args.self.now.twist.now) (g.Z.Reduction.maps c.args.self.now.of.now).h (λ x. None) (g.Q.Perturb.asks c.args.self.now.twist.now) (g.Z.Reduction.lists c.args.self.now.of.now).h (g.Q.Perturb.may_be_asked c.args.self.now.twist.now) (g.Z.Reduction.may_ask_big c.args.self.now.of.now) c.args.rank d) (sym (c.in_ok-start.ensures.prime ∙ c.requires.prime)) (sym (c.in_ok-start.ensures.sum ∙ ap (λ v. normal g.Z.Big.Ord.cmp (number v) (extend (g.Z.Reduction.maps c.args.self.now.of.now).h c.args.c.now.terms)) c.requires.prime))
    (may-series g.Z.Big.Ord.cmp (number (g.Z.Reduction.prime_of c.args.self.now.of.now)) (g.Q.Perturb.delta_of c.args.self.now.twist.now) (g.Z.Reduction.maps c.args.self.now.of.now).h (g.Q.Perturb.may_be_asked c.args.self.now.twist.now) (g.Z.Reduction.may_ask_big c.args.self.now.of.now) (λ x. None) (g.Q.Perturb.asks c.args.self.now.twist.now) (g.Z.Reduction.lists c.args.self.now.of.now).h c.args.rank (normal g.Z.Big.Ord.cmp (number (g.Z.Reduction.prime_of c.args.self.now.of.now)) (extend (g.Z.Reduction.maps c.args.self.now.of.now).h c.args.c.now.terms)) c.requires.keys.1)

pub returns-clause-value : goal.returns-clause-value
returns-clause-value g c = IfOk-weaker c.series.result _ _ (λ s e. e ∙ (λ i. series g.Z.Big.Ord.cmp (number ((c.in_ok-start.ensures.prime ∙ c.requires.prime) i)) c.args.rank (after (g.Z.Reduction.maps c.args.self.now.of.now).h (g.Q.Perturb.delta_of c.args.self.now.twist.now)) ((c.in_ok-start.ensures.sum ∙ ap (λ v. normal g.Z.Big.Ord.cmp (number v) (extend (g.Z.Reduction.maps c.args.self.now.of.now).h c.args.c.now.terms)) c.requires.prime) i))) c.series.ensures.sum
