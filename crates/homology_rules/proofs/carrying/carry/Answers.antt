use Rattle.std.proofs.Common.{◌≡◌, map, sym, ◌∙◌, ap, subst}
use Rattle.homology_rules.specs.Asking.{first_refusal, up_to_refusal, MayForceEach, AskedFirst, EachAnswered, AllAnswered, IsAnswered}
use Rattle.oracle_iface.specs.Forcing.{Asked}
use Rattle.homology_rules.specs.Held.{HasBigOver}
use Rattle.homology_rules.proofs.GAlong.{g_key, all_held, same_keys, carried-is}
use Rattle.std.proofs.lemmas.List.Elements.{All-same}
use Rattle.homology_rules.proofs.carrying.carry.Goals as goal
use Rattle.homology_rules.proofs.carrying.carry.Goals.{In-Values}
use Rattle.homology_rules.proofs.carrying.carry.Given.{Over as Types}

pub ask_all-requires : goal.ask_all-requires
ask_all-requires g c =
    subst (MayForceEach g.F.Forcer.may_force g.F.Forcer.forces c.args.forcer.now)
    (sym (same_keys c.args.key.now c.args.cells.now c.args.vector.now.values c.in_ok-terms.terms.items c.deref.result.now c.deref.ensures.value c.in_ok-terms.ensures.terms c.in_ok-keys.keys.items c.deref-2.result.now
    c.deref-2.ensures.value c.in_ok-keys.ensures)) c.requires.forcer

pub returns-in_err-over-clause-asked : goal.returns-in_err-over-clause-asked
returns-in_err-over-clause-asked g c =
    subst (λ ks. AskedFirst g.F.Forcer.forces ks c.args.forcer.now c.ask_all.new.forcer)
    (same_keys c.args.key.now c.args.cells.now c.args.vector.now.values c.in_ok-terms.terms.items c.deref.result.now c.deref.ensures.value c.in_ok-terms.ensures.terms c.in_ok-keys.keys.items c.deref-2.result.now
    c.deref-2.ensures.value c.in_ok-keys.ensures)
    c.ask_all.ensures.asked

pub returns-in-Over-clause-asked : goal.returns-in-Over-clause-asked
returns-in-Over-clause-asked g c =
    subst (λ ks. AskedFirst g.F.Forcer.forces ks c.args.forcer.now c.ask_all.new.forcer)
    (same_keys c.args.key.now c.args.cells.now c.args.vector.now.values c.in_ok-terms.terms.items c.deref.result.now c.deref.ensures.value c.in_ok-terms.ensures.terms c.in_ok-keys.keys.items c.deref-2.result.now
    c.deref-2.ensures.value c.in_ok-keys.ensures)
    c.ask_all.ensures.asked

pub returns-in_err-sum_of-in-Values-clause-asked : goal.returns-in_err-sum_of-in-Values-clause-asked
returns-in_err-sum_of-in-Values-clause-asked g c =
    subst (λ ks. AskedFirst g.F.Forcer.forces ks c.args.forcer.now c.ask_all.new.forcer)
    (same_keys c.args.key.now c.args.cells.now c.args.vector.now.values c.in_ok-terms.terms.items c.deref.result.now c.deref.ensures.value c.in_ok-terms.ensures.terms c.in_ok-keys.keys.items c.deref-2.result.now
    c.deref-2.ensures.value c.in_ok-keys.ensures)
    c.ask_all.ensures.asked

pub returns-clause-asked : goal.returns-clause-asked
returns-clause-asked g c =
    subst (λ ks. AskedFirst g.F.Forcer.forces ks c.args.forcer.now c.ask_all.new.forcer)
    (same_keys c.args.key.now c.args.cells.now c.args.vector.now.values c.in_ok-terms.terms.items c.deref.result.now c.deref.ensures.value c.in_ok-terms.ensures.terms c.in_ok-keys.keys.items c.deref-2.result.now
    c.deref-2.ensures.value c.in_ok-keys.ensures)
    c.ask_all.ensures.asked

pub returns-in-Over-clause-carried : goal.returns-in-Over-clause-carried
returns-in-Over-clause-carried g c =
    sym (ap first_refusal (same_keys c.args.key.now c.args.cells.now c.args.vector.now.values c.in_ok-terms.terms.items c.deref.result.now c.deref.ensures.value c.in_ok-terms.ensures.terms c.in_ok-keys.keys.items c.deref-2.result.now
    c.deref-2.ensures.value c.in_ok-keys.ensures))
    ∙ subst (λ x. IsAnswered g.F.Forcer.forces c.deref-2.result.now c.args.forcer.now c.ask_all.new.forcer x) c.in-Over.is c.in_ok-over.ensures.answers

answered : (g : Types) (c : In-Values g) → AllAnswered g.F.Forcer.forces c.deref-2.result.now c.args.forcer.now c.ask_all.new.forcer c.in-Values.images.items
answered g c = subst (λ x. IsAnswered g.F.Forcer.forces c.deref-2.result.now c.args.forcer.now c.ask_all.new.forcer x) c.in-Values.is c.in_ok-over.ensures.answers

keys_lent : (g : Types) (c : In-Values g) → c.deref-2.result.now ≡ map (λ t. g_key c.args.key.now t.0) c.deref.result.now
keys_lent g c = c.deref-2.ensures.value ∙ c.in_ok-keys.ensures

pub sum_of-requires-clause-chains : goal.sum_of-requires-clause-chains
sum_of-requires-clause-chains g c =
    let d = (goal.at.sum_of-requires-clause-chains g c).In-Values in
    All-same (λ v. HasBigOver c.args.key.now.prime v.outcome) _ _ c.deref-in-Values-2.ensures.value
    (all_held c.args.key.now c.deref.result.now c.in-Values.images.items ((answered g d).keys_are ∙ keys_lent g d) (sym (ap first_refusal (keys_lent g d)) ∙ (answered g d).none_refused))

pub returns-clause-carried : goal.returns-clause-carried
returns-clause-carried g c =
    let d = (goal.at.returns-clause-carried g c).In-Values in (
      sym (ap first_refusal (same_keys c.args.key.now c.args.cells.now c.args.vector.now.values c.in_ok-terms.terms.items c.deref.result.now c.deref.ensures.value c.in_ok-terms.ensures.terms c.in_ok-keys.keys.items c.deref-2.result.now
          c.deref-2.ensures.value c.in_ok-keys.ensures))
          ∙ (answered g d).none_refused,
      carried-is c.args.key.now c.args.cells.now c.args.vector.now.values c.in_ok-terms.terms.items c.deref-in-Values.result.now c.deref-in-Values.ensures.value c.in_ok-terms.ensures.terms
          c.in-Values.images.items c.deref-in-Values-2.result.now c.in_ok-sum_of-in-Values.field-0 c.deref-in-Values-2.ensures.value
          ((answered g d).keys_are ∙ keys_lent g d ∙ ap (map (λ t. g_key c.args.key.now t.0)) (c.deref.ensures.value ∙ sym c.deref-in-Values.ensures.value))
          c.in_ok-sum_of-in-Values.ensures.prime c.in_ok-sum_of-in-Values.ensures.sum,
      subst (λ ks. Asked g.F.Forcer.forces c.args.forcer.now ks c.ask_all.new.forcer)
          (same_keys c.args.key.now c.args.cells.now c.args.vector.now.values c.in_ok-terms.terms.items c.deref.result.now c.deref.ensures.value c.in_ok-terms.ensures.terms c.in_ok-keys.keys.items c.deref-2.result.now
          c.deref-2.ensures.value c.in_ok-keys.ensures)
          (answered g d).asked,
    )

pub returns-in-Over-clause-through : goal.returns-in-Over-clause-through
returns-in-Over-clause-through g c =
    subst (λ ks. EachAnswered g.F.Forcer.forces c.args.forcer.now (up_to_refusal ks) c.ask_all.new.forcer)
    (same_keys c.args.key.now c.args.cells.now c.args.vector.now.values c.in_ok-terms.terms.items c.deref.result.now c.deref.ensures.value c.in_ok-terms.ensures.terms c.in_ok-keys.keys.items c.deref-2.result.now
    c.deref-2.ensures.value c.in_ok-keys.ensures)
    c.in_ok-over.ensures.through

pub returns-clause-through : goal.returns-clause-through
returns-clause-through g c =
    subst (λ ks. EachAnswered g.F.Forcer.forces c.args.forcer.now (up_to_refusal ks) c.ask_all.new.forcer)
    (same_keys c.args.key.now c.args.cells.now c.args.vector.now.values c.in_ok-terms.terms.items c.deref.result.now c.deref.ensures.value c.in_ok-terms.ensures.terms c.in_ok-keys.keys.items c.deref-2.result.now
    c.deref-2.ensures.value c.in_ok-keys.ensures)
    c.in_ok-over.ensures.through
