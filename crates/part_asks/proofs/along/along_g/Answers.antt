use Rattle.std.proofs.Common.{length, refl, sym, ◌∙◌, ap, subst}
use Rattle.std.proofs.lemmas.List.Elements.{All-same}
use Rattle.term_lang.specs.SpaceOf.{space_of}
use Rattle.homology_rules.specs.Asking.{first_refusal, up_to_refusal, MayForceEach, AskedFirst, EachAnswered, IsAnswered}
use Rattle.homology_rules.specs.Held.{HasBigOver}
use Rattle.homology_rules.proofs.GAlong.{all_held, as_many}
use Rattle.part_asks.proofs.AlongG.{along-keys, along-sum, along-made}
use Rattle.part_asks.proofs.along.along_g.Goals as goal

pub ask_all-requires : goal.ask_all-requires
ask_all-requires g c = subst (MayForceEach g.F.Forcer.may_force g.F.Forcer.forces c.args.forcer.now) (sym (along-keys c.args.key.now (space_of c.args.key.now.term) refl c.terms.result.now c.args.chain.now.terms c.terms.ensures.terms c.requires.cells c.in_ok-keys.keys.items c.deref.result.now c.deref.ensures.value c.in_ok-keys.ensures)) c.requires.asks

pub returns-in_err-over-clause-asked : goal.returns-in_err-over-clause-asked
returns-in_err-over-clause-asked g c = subst (λ ks. AskedFirst g.F.Forcer.forces ks c.args.forcer.now c.ask_all.new.forcer) (along-keys c.args.key.now (space_of c.args.key.now.term) refl c.terms.result.now c.args.chain.now.terms c.terms.ensures.terms c.requires.cells c.in_ok-keys.keys.items c.deref.result.now c.deref.ensures.value c.in_ok-keys.ensures) c.ask_all.ensures.asked

pub returns-in-Over-clause-asked : goal.returns-in-Over-clause-asked
returns-in-Over-clause-asked g c = subst (λ ks. AskedFirst g.F.Forcer.forces ks c.args.forcer.now c.ask_all.new.forcer) (along-keys c.args.key.now (space_of c.args.key.now.term) refl c.terms.result.now c.args.chain.now.terms c.terms.ensures.terms c.requires.cells c.in_ok-keys.keys.items c.deref.result.now c.deref.ensures.value c.in_ok-keys.ensures) c.ask_all.ensures.asked

pub returns-in_err-sum-in-Values-clause-asked : goal.returns-in_err-sum-in-Values-clause-asked
returns-in_err-sum-in-Values-clause-asked g c = subst (λ ks. AskedFirst g.F.Forcer.forces ks c.args.forcer.now c.ask_all.new.forcer) (along-keys c.args.key.now (space_of c.args.key.now.term) refl c.terms.result.now c.args.chain.now.terms c.terms.ensures.terms c.requires.cells c.in_ok-keys.keys.items c.deref.result.now c.deref.ensures.value c.in_ok-keys.ensures) c.ask_all.ensures.asked

pub returns-clause-asked : goal.returns-clause-asked
returns-clause-asked g c = subst (λ ks. AskedFirst g.F.Forcer.forces ks c.args.forcer.now c.ask_all.new.forcer) (along-keys c.args.key.now (space_of c.args.key.now.term) refl c.terms.result.now c.args.chain.now.terms c.terms.ensures.terms c.requires.cells c.in_ok-keys.keys.items c.deref.result.now c.deref.ensures.value c.in_ok-keys.ensures) c.ask_all.ensures.asked

pub returns-in-Over-clause-through : goal.returns-in-Over-clause-through
returns-in-Over-clause-through g c = subst (λ ks. EachAnswered g.F.Forcer.forces c.args.forcer.now (up_to_refusal ks) c.ask_all.new.forcer) (along-keys c.args.key.now (space_of c.args.key.now.term) refl c.terms.result.now c.args.chain.now.terms c.terms.ensures.terms c.requires.cells c.in_ok-keys.keys.items c.deref.result.now c.deref.ensures.value c.in_ok-keys.ensures) c.in_ok-over.ensures.through

pub returns-clause-through : goal.returns-clause-through
returns-clause-through g c = subst (λ ks. EachAnswered g.F.Forcer.forces c.args.forcer.now (up_to_refusal ks) c.ask_all.new.forcer) (along-keys c.args.key.now (space_of c.args.key.now.term) refl c.terms.result.now c.args.chain.now.terms c.terms.ensures.terms c.requires.cells c.in_ok-keys.keys.items c.deref.result.now c.deref.ensures.value c.in_ok-keys.ensures) c.in_ok-over.ensures.through

pub returns-in-Over-clause-found : goal.returns-in-Over-clause-found
returns-in-Over-clause-found g c =
    sym (ap first_refusal (along-keys c.args.key.now (space_of c.args.key.now.term) refl c.terms.result.now c.args.chain.now.terms c.terms.ensures.terms c.requires.cells c.in_ok-keys.keys.items c.deref.result.now c.deref.ensures.value c.in_ok-keys.ensures))
    ∙ subst (λ x. IsAnswered g.F.Forcer.forces c.deref.result.now c.args.forcer.now c.ask_all.new.forcer x) c.in-Over.is c.in_ok-over.ensures.answers

pub sum_of-requires-clause-lengths : goal.sum_of-requires-clause-lengths
sum_of-requires-clause-lengths g c =
    ap length c.deref-in-Values.ensures.value
    ∙ as_many c.args.key.now c.terms-in-Values.result.now c.in-Values.images.items
    (along-made c.args.key.now c.terms.result.now c.terms-in-Values.result.now c.args.chain.now.terms c.terms.ensures.terms c.terms-in-Values.ensures.terms c.in-Values.images.items c.deref.result.now (subst (λ x. IsAnswered g.F.Forcer.forces c.deref.result.now c.args.forcer.now c.ask_all.new.forcer x) c.in-Values.is c.in_ok-over.ensures.answers).keys_are (c.deref.ensures.value ∙ c.in_ok-keys.ensures))

pub sum_of-requires-clause-chains : goal.sum_of-requires-clause-chains
sum_of-requires-clause-chains g c =
    All-same (λ v. HasBigOver c.args.key.now.prime v.outcome) _ _ c.deref-in-Values.ensures.value
    (all_held c.args.key.now c.terms.result.now c.in-Values.images.items ((subst (λ x. IsAnswered g.F.Forcer.forces c.deref.result.now c.args.forcer.now c.ask_all.new.forcer x) c.in-Values.is c.in_ok-over.ensures.answers).keys_are ∙ (c.deref.ensures.value ∙ c.in_ok-keys.ensures))
    (sym (ap first_refusal (c.deref.ensures.value ∙ c.in_ok-keys.ensures)) ∙ (subst (λ x. IsAnswered g.F.Forcer.forces c.deref.result.now c.args.forcer.now c.ask_all.new.forcer x) c.in-Values.is c.in_ok-over.ensures.answers).none_refused))

pub returns-clause-found : goal.returns-clause-found
returns-clause-found g c =
    let none = sym (ap first_refusal (along-keys c.args.key.now (space_of c.args.key.now.term) refl c.terms.result.now c.args.chain.now.terms c.terms.ensures.terms c.requires.cells c.in_ok-keys.keys.items c.deref.result.now c.deref.ensures.value c.in_ok-keys.ensures)) ∙ (subst (λ x. IsAnswered g.F.Forcer.forces c.deref.result.now c.args.forcer.now c.ask_all.new.forcer x) c.in-Values.is c.in_ok-over.ensures.answers).none_refused in (
      none,
      along-sum c.args.key.now (space_of c.args.key.now.term) refl c.terms-in-Values.result.now c.args.chain.now.terms c.terms-in-Values.ensures.terms c.requires.cells c.requires.part c.requires.valid none
          c.in-Values.images.items c.deref-in-Values.result.now c.deref-in-Values.ensures.value
          (along-made c.args.key.now c.terms.result.now c.terms-in-Values.result.now c.args.chain.now.terms c.terms.ensures.terms c.terms-in-Values.ensures.terms c.in-Values.images.items c.deref.result.now (subst (λ x. IsAnswered g.F.Forcer.forces c.deref.result.now c.args.forcer.now c.ask_all.new.forcer x) c.in-Values.is c.in_ok-over.ensures.answers).keys_are (c.deref.ensures.value ∙ c.in_ok-keys.ensures))
          c.in_ok-sum-in-Values.sum c.in_ok-sum-in-Values.ensures.prime c.in_ok-sum-in-Values.ensures.sum,
    )
