use Rattle.std.proofs.Common.{sym, ◌∙◌, subst}
use Rattle.std.proofs.lemmas.Result.{IfOk-weaker}
use Rattle.fp_field.specs.Field.{number}
use Rattle.fp_field.specs.Chains.{extend, Each}
use Rattle.fp_field.specs.Normal.{normal}
use Rattle.reduct_laws.proofs.Rebased.{Each-so}
use Rattle.twice_perturbed.proofs.FirstSeries.{within-image, within-keys, within-images}
use Rattle.twice_perturbed.proofs.FirstAlong.{difference-none}
use Rattle.twice_perturbed.proofs.first.FirstFirstMaps.difference.Goals as goal

pub returns-then-is_none-clause-value : goal.returns-then-is_none-clause-value
returns-then-is_none-clause-value g c =
    c.new.ensures.zero ∙ sym (difference-none g.Z.Big.Ord.cmp g.met.Z.Reduction.one_big g.met.Z.Big.Ord.total g.Z.Small.Ord.cmp g.met.Z.Reduction.one_small g.met.Z.Small.Ord.total (record { prime = g.Z.Reduction.prime_of c.args.self.now.of.now; maps = g.Z.Reduction.maps c.args.self.now.of.now; twist = g.Q.Perturb.delta_of c.args.self.now.twist.now; may_big = g.Z.Reduction.may_ask_big c.args.self.now.of.now; may_middle = g.Z.Reduction.may_ask_small c.args.self.now.of.now; may_twist = g.Q.Perturb.may_be_asked c.args.self.now.twist.now; whole = Unit {0} }) c.args.rank (c.is_none.ensures c.if-is_none.true) c.args.c.now.terms)

pub apply-requires-clause-keys : goal.apply-requires-clause-keys
apply-requires-clause-keys g c =
    subst (Each (g.Q.Perturb.may_be_asked c.args.self.now.twist.now)) (sym c.in_ok-lifted.ensures.value)
    (within-keys g.Z.Big.Ord.cmp g.met.Z.Reduction.one_big g.met.Z.Big.Ord.total (g.Z.Reduction.prime_of c.args.self.now.of.now) (g.Q.Perturb.delta_of c.args.self.now.twist.now) (g.Z.Reduction.maps c.args.self.now.of.now).h (g.Q.Perturb.may_be_asked c.args.self.now.twist.now) (g.Z.Reduction.may_ask_big c.args.self.now.of.now) c.args.rank (normal g.Z.Big.Ord.cmp (number (g.Z.Reduction.prime_of c.args.self.now.of.now)) (extend (g.Z.Reduction.maps c.args.self.now.of.now).g c.args.c.now.terms)) (within-image g.Z.Big.Ord.cmp g.met.Z.Reduction.one_big g.met.Z.Big.Ord.total (g.Z.Reduction.prime_of c.args.self.now.of.now) (g.Q.Perturb.delta_of c.args.self.now.twist.now) (g.Z.Reduction.maps c.args.self.now.of.now).h (g.Q.Perturb.may_be_asked c.args.self.now.twist.now) (g.Z.Reduction.may_ask_big c.args.self.now.of.now) c.args.rank (g.Z.Reduction.maps c.args.self.now.of.now).g c.args.c.now.terms (Each-so c.args.c.now.terms (λ k x. x.1) c.requires.keys)))

pub apply-requires-2-clause-keys : goal.apply-requires-2-clause-keys
apply-requires-2-clause-keys g c =
    subst (Each (g.Z.Reduction.may_ask_big c.args.self.now.of.now)) (sym (c.in_ok-turned.ensures.sum ∙ (λ i. normal g.Z.Big.Ord.cmp (number (c.in_ok-lifted.ensures.prime i)) (extend (g.Q.Perturb.delta_of c.args.self.now.twist.now) (c.in_ok-lifted.ensures.value i)))))
    (within-images g.Z.Big.Ord.cmp g.met.Z.Reduction.one_big g.met.Z.Big.Ord.total (g.Z.Reduction.prime_of c.args.self.now.of.now) (g.Q.Perturb.delta_of c.args.self.now.twist.now) (g.Z.Reduction.maps c.args.self.now.of.now).h (g.Q.Perturb.may_be_asked c.args.self.now.twist.now) (g.Z.Reduction.may_ask_big c.args.self.now.of.now) c.args.rank (normal g.Z.Big.Ord.cmp (number (g.Z.Reduction.prime_of c.args.self.now.of.now)) (extend (g.Z.Reduction.maps c.args.self.now.of.now).g c.args.c.now.terms)) (within-image g.Z.Big.Ord.cmp g.met.Z.Reduction.one_big g.met.Z.Big.Ord.total (g.Z.Reduction.prime_of c.args.self.now.of.now) (g.Q.Perturb.delta_of c.args.self.now.twist.now) (g.Z.Reduction.maps c.args.self.now.of.now).h (g.Q.Perturb.may_be_asked c.args.self.now.twist.now) (g.Z.Reduction.may_ask_big c.args.self.now.of.now) c.args.rank (g.Z.Reduction.maps c.args.self.now.of.now).g c.args.c.now.terms (Each-so c.args.c.now.terms (λ k x. x.1) c.requires.keys)))

pub returns-clause-value : goal.returns-clause-value
returns-clause-value g c = IfOk-weaker c.apply-2.result _ _ (λ s e.
    e ∙ (λ i. normal g.Z.Small.Ord.cmp (number ((c.in_ok-turned.ensures.prime ∙ c.in_ok-lifted.ensures.prime) i)) (extend (g.Z.Reduction.maps c.args.self.now.of.now).f ((c.in_ok-turned.ensures.sum ∙ (λ i. normal g.Z.Big.Ord.cmp (number (c.in_ok-lifted.ensures.prime i)) (extend (g.Q.Perturb.delta_of c.args.self.now.twist.now) (c.in_ok-lifted.ensures.value i)))) i)))) c.apply-2.ensures.sum
