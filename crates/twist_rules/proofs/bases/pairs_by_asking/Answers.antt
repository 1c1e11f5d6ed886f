use Rattle.std.proofs.Common.{suc, refl, sym, ◌∙◌, ap, subst, All}
use Rattle.values.specs.Rules.{numbers}
use Rattle.oracle_iface.specs.declared.bodies.Body.TheVariants.{Cells}
use Rattle.homology_rules.specs.Asking.{first_refusal, up_to_refusal, MayForceEach, AskedFirst, EachAnswered, IsAnswered}
use Rattle.homology_rules.specs.Degrees.{HasCells}
use Rattle.twist_rules.specs.PairBases.{pairs_held}
use Rattle.twist_rules.proofs.BasisKeys.{keys-are}
use Rattle.twist_rules.proofs.HeldPairs.{lists-held, pairs-are}
use Rattle.twist_rules.proofs.bases.pairs_by_asking.Goals as goal

pub returns-in_err-keys-clause-asked : goal.returns-in_err-keys-clause-asked
returns-in_err-keys-clause-asked g c = (0, refl)

pub ask_all-requires : goal.ask_all-requires
ask_all-requires g c =
    subst (MayForceEach g.F.Forcer.may_force g.F.Forcer.forces c.args.forcer.now)
    (sym (c.deref.ensures.value ∙ c.in_ok-keys.ensures ∙ keys-are c.args.p c.args.parts.now.base c.args.parts.now.fibre c.args.n (numbers 0 (suc c.args.n)))) c.requires.forcer

pub returns-in_err-over-clause-asked : goal.returns-in_err-over-clause-asked
returns-in_err-over-clause-asked g c =
    subst (λ ks. AskedFirst g.F.Forcer.forces ks c.args.forcer.now c.ask_all.new.forcer)
    (c.deref.ensures.value ∙ c.in_ok-keys.ensures ∙ keys-are c.args.p c.args.parts.now.base c.args.parts.now.fibre c.args.n (numbers 0 (suc c.args.n))) c.ask_all.ensures.asked

pub returns-in-Over-clause-asked : goal.returns-in-Over-clause-asked
returns-in-Over-clause-asked g c =
    subst (λ ks. AskedFirst g.F.Forcer.forces ks c.args.forcer.now c.ask_all.new.forcer)
    (c.deref.ensures.value ∙ c.in_ok-keys.ensures ∙ keys-are c.args.p c.args.parts.now.base c.args.parts.now.fibre c.args.n (numbers 0 (suc c.args.n))) c.ask_all.ensures.asked

pub returns-in-Over-clause-through : goal.returns-in-Over-clause-through
returns-in-Over-clause-through g c =
    subst (λ ks. EachAnswered g.F.Forcer.forces c.args.forcer.now (up_to_refusal ks) c.ask_all.new.forcer)
    (c.deref.ensures.value ∙ c.in_ok-keys.ensures ∙ keys-are c.args.p c.args.parts.now.base c.args.parts.now.fibre c.args.n (numbers 0 (suc c.args.n))) c.in_ok-over.ensures.through

pub returns-in-Over-clause-found : goal.returns-in-Over-clause-found
returns-in-Over-clause-found g c =
    sym (ap first_refusal (c.deref.ensures.value ∙ c.in_ok-keys.ensures ∙ keys-are c.args.p c.args.parts.now.base c.args.parts.now.fibre c.args.n (numbers 0 (suc c.args.n))))
    ∙ subst (λ x. IsAnswered g.F.Forcer.forces c.deref.result.now c.args.forcer.now c.ask_all.new.forcer x) c.in-Over.is c.in_ok-over.ensures.answers

pub pairs_in-requires : goal.pairs_in-requires
pairs_in-requires g c =
    let h = subst (λ x. IsAnswered g.F.Forcer.forces c.deref.result.now c.args.forcer.now c.ask_all.new.forcer x) c.in-Values.is c.in_ok-over.ensures.answers in
    let e = c.deref.ensures.value ∙ c.in_ok-keys.ensures in
    subst (All (λ v. HasCells v.outcome)) (sym c.deref-in-Values.ensures.value)
    (lists-held c.args.p c.args.parts.now.base c.args.parts.now.fibre c.args.n (numbers 0 (suc c.args.n)) c.in-Values.cells.items (h.keys_are ∙ e) (sym (ap first_refusal e) ∙ h.none_refused))

pub returns-in_err-pairs_in-in-Values-clause-asked : goal.returns-in_err-pairs_in-in-Values-clause-asked
returns-in_err-pairs_in-in-Values-clause-asked g c =
    subst (λ ks. AskedFirst g.F.Forcer.forces ks c.args.forcer.now c.ask_all.new.forcer)
    (c.deref.ensures.value ∙ c.in_ok-keys.ensures ∙ keys-are c.args.p c.args.parts.now.base c.args.parts.now.fibre c.args.n (numbers 0 (suc c.args.n))) c.ask_all.ensures.asked

pub returns-clause-asked : goal.returns-clause-asked
returns-clause-asked g c =
    subst (λ ks. AskedFirst g.F.Forcer.forces ks c.args.forcer.now c.ask_all.new.forcer)
    (c.deref.ensures.value ∙ c.in_ok-keys.ensures ∙ keys-are c.args.p c.args.parts.now.base c.args.parts.now.fibre c.args.n (numbers 0 (suc c.args.n))) c.ask_all.ensures.asked

pub returns-clause-through : goal.returns-clause-through
returns-clause-through g c =
    subst (λ ks. EachAnswered g.F.Forcer.forces c.args.forcer.now (up_to_refusal ks) c.ask_all.new.forcer)
    (c.deref.ensures.value ∙ c.in_ok-keys.ensures ∙ keys-are c.args.p c.args.parts.now.base c.args.parts.now.fibre c.args.n (numbers 0 (suc c.args.n))) c.in_ok-over.ensures.through

pub returns-clause-found : goal.returns-clause-found
returns-clause-found g c =
    let h = subst (λ x. IsAnswered g.F.Forcer.forces c.deref.result.now c.args.forcer.now c.ask_all.new.forcer x) c.in-Values.is c.in_ok-over.ensures.answers in
    let e = c.deref.ensures.value ∙ c.in_ok-keys.ensures in (
      sym (ap first_refusal (e ∙ keys-are c.args.p c.args.parts.now.base c.args.parts.now.fibre c.args.n (numbers 0 (suc c.args.n)))) ∙ h.none_refused,
      ap Cells
          (c.in_ok-pairs_in-in-Values.ensures ∙ ap pairs_held c.deref-in-Values.ensures.value
          ∙ pairs-are c.args.p c.args.parts.now.base c.args.parts.now.fibre c.args.n (numbers 0 (suc c.args.n)) c.in-Values.cells.items (h.keys_are ∙ e) (sym (ap first_refusal e) ∙ h.none_refused)),
    )
