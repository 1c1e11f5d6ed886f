use Rattle.std.proofs.Common.{None, sym, ◌∙◌, ap, subst}
use Rattle.std.proofs.lemmas.Result.{IfOk-weaker}
use Rattle.fp_field.specs.Field.{number}
use Rattle.fp_field.specs.Chains.{extend, Each}
use Rattle.fp_field.specs.Normal.{normal}
use Rattle.fp_field.specs.Reduction.{after}
use Rattle.fp_field.specs.Series.{series}
use Rattle.fp_field.proofs.Primes.{number_pos}
use Rattle.perturb.specs.PerturbedLists.{series_may_ask}
use Rattle.perturb.proofs.SeriesValues.{carry, series_keys}
use Rattle.twice_perturbed.proofs.FirstSeries.{may-series}
use Rattle.twice_perturbed.proofs.FirstAlong.{lowered-none}
use Rattle.twice_perturbed.proofs.first.FirstFirstMaps.lowered.Goals as goal

pub returns-then-is_none-clause-value : goal.returns-then-is_none-clause-value
returns-then-is_none-clause-value g c = IfOk-weaker c.apply.result _ _ (λ s e.
    e ∙ ap (λ v. normal g.Z.Small.Ord.cmp (number v) (extend (g.Z.Reduction.maps c.args.self.now.of.now).f c.args.c.now.terms)) c.requires.prime
    ∙ lowered-none g.Z.Big.Ord.cmp g.met.Z.Reduction.one_big g.met.Z.Big.Ord.total g.Z.Small.Ord.cmp g.met.Z.Reduction.one_small g.met.Z.Small.Ord.total (record { prime = g.Z.Reduction.prime_of c.args.self.now.of.now; maps = g.Z.Reduction.maps c.args.self.now.of.now; twist = g.Q.Perturb.delta_of c.args.self.now.twist.now; may_big = g.Z.Reduction.may_ask_big c.args.self.now.of.now; may_middle = g.Z.Reduction.may_ask_small c.args.self.now.of.now; may_twist = g.Q.Perturb.may_be_asked c.args.self.now.twist.now; whole = Unit {0} }) c.args.rank (c.is_none.ensures c.if-is_none.true) c.args.c.now.terms c.requires.rank) c.apply.ensures.sum

pub series-requires-clause-keys : goal.series-requires-clause-keys
series-requires-clause-keys g c =
    carry (λ v d. series_may_ask g.Z.Big.Ord.cmp (number v) (g.Z.Reduction.maps c.args.self.now.of.now).h (g.Q.Perturb.delta_of c.args.self.now.twist.now) (λ x. None) (g.Z.Reduction.lists c.args.self.now.of.now).h (g.Q.Perturb.asks c.args.self.now.twist.now) (g.Z.Reduction.may_ask_big c.args.self.now.of.now) (g.Q.Perturb.may_be_asked c.args.self.now.twist.now) c.args.rank d) (sym (ap (λ z. z.prime) (c.in_ok-clone.ensures.cases c.requires.whole.1) ∙ c.requires.prime)) (sym (ap (λ z. z.terms) (c.in_ok-clone.ensures.cases c.requires.whole.1)))
    (may-series g.Z.Big.Ord.cmp (number (g.Z.Reduction.prime_of c.args.self.now.of.now)) (g.Z.Reduction.maps c.args.self.now.of.now).h (g.Q.Perturb.delta_of c.args.self.now.twist.now) (g.Z.Reduction.may_ask_big c.args.self.now.of.now) (g.Q.Perturb.may_be_asked c.args.self.now.twist.now) (λ x. None) (g.Z.Reduction.lists c.args.self.now.of.now).h (g.Q.Perturb.asks c.args.self.now.twist.now) c.args.rank c.args.c.now.terms c.requires.keys)

pub apply-requires-2-clause-keys : goal.apply-requires-2-clause-keys
apply-requires-2-clause-keys g c =
    subst (Each (g.Z.Reduction.may_ask_big c.args.self.now.of.now)) (sym c.in_ok-sum.ensures.sum)
    (series_keys (number c.in_ok-clone.field-0.prime) (number_pos c.in_ok-clone.field-0.prime) g.Z.Big.Ord.cmp g.met.Z.Reduction.one_big g.met.Z.Big.Ord.total (g.Z.Reduction.maps c.args.self.now.of.now).h (g.Q.Perturb.delta_of c.args.self.now.twist.now) (λ x. None) (g.Z.Reduction.lists c.args.self.now.of.now).h (g.Q.Perturb.asks c.args.self.now.twist.now) (g.Z.Reduction.may_ask_big c.args.self.now.of.now) (g.Q.Perturb.may_be_asked c.args.self.now.twist.now) c.args.rank c.in_ok-clone.field-0.terms
    (carry (λ v d. series_may_ask g.Z.Big.Ord.cmp (number v) (g.Z.Reduction.maps c.args.self.now.of.now).h (g.Q.Perturb.delta_of c.args.self.now.twist.now) (λ x. None) (g.Z.Reduction.lists c.args.self.now.of.now).h (g.Q.Perturb.asks c.args.self.now.twist.now) (g.Z.Reduction.may_ask_big c.args.self.now.of.now) (g.Q.Perturb.may_be_asked c.args.self.now.twist.now) c.args.rank d) (sym (ap (λ z. z.prime) (c.in_ok-clone.ensures.cases c.requires.whole.1) ∙ c.requires.prime)) (sym (ap (λ z. z.terms) (c.in_ok-clone.ensures.cases c.requires.whole.1)))
    (may-series g.Z.Big.Ord.cmp (number (g.Z.Reduction.prime_of c.args.self.now.of.now)) (g.Z.Reduction.maps c.args.self.now.of.now).h (g.Q.Perturb.delta_of c.args.self.now.twist.now) (g.Z.Reduction.may_ask_big c.args.self.now.of.now) (g.Q.Perturb.may_be_asked c.args.self.now.twist.now) (λ x. None) (g.Z.Reduction.lists c.args.self.now.of.now).h (g.Q.Perturb.asks c.args.self.now.twist.now) c.args.rank c.args.c.now.terms c.requires.keys)) c.in_ok-sum.ensures.source.granted)

pub returns-clause-value : goal.returns-clause-value
returns-clause-value g c = IfOk-weaker c.apply-2.result _ _ (λ s e.
    e ∙ (λ i. normal g.Z.Small.Ord.cmp (number ((c.in_ok-sum.ensures.prime ∙ (ap (λ z. z.prime) (c.in_ok-clone.ensures.cases c.requires.whole.1) ∙ c.requires.prime)) i)) (extend (g.Z.Reduction.maps c.args.self.now.of.now).f ((c.in_ok-sum.ensures.sum ∙ (λ j. series g.Z.Big.Ord.cmp (number ((ap (λ z. z.prime) (c.in_ok-clone.ensures.cases c.requires.whole.1) ∙ c.requires.prime) j)) c.args.rank (after (g.Q.Perturb.delta_of c.args.self.now.twist.now) (g.Z.Reduction.maps c.args.self.now.of.now).h) (ap (λ z. z.terms) (c.in_ok-clone.ensures.cases c.requires.whole.1) j))) i)))) c.apply-2.ensures.sum
