-- The fault of a suspension whose part is ready, and what is told of it.
use Rattle.std.proofs.Common.{◌≡◌, Some, None, sym, ◌∙◌, ap, subst}
use Rattle.term_lang.specs.declared.terms.Term.{Term}
use Rattle.term_lang.specs.declared.terms.Term.TheVariants.{Suspension as SuspensionTerm}
use Rattle.term_lang.specs.declared.faults.TermFault.{TermFault}
use Rattle.term_lang.specs.SpaceOf.{space_of}
use Rattle.term_lang.specs.TermFaults.{Fault, own_fault, fault_of}
use Rattle.term_lang.proofs.SpacesOfTerms.{space-Suspension}
use Rattle.session_core.specs.Answer.{Told, told, refused, term_refusal, told_whole}
use Rattle.session_core.specs.Whole.{IsReady}
use Rattle.session_core.proofs.NoFaults.{no_fault, first_own, allowed_suspension}

module _ (part : Term) (ready : IsReady (space_of part)) where
  abbrev whole : Term
  whole = SuspensionTerm part

  fine : fault_of (space_of part) ≡ None
  fine = no_fault (space_of part) ready.0

  first-own : fault_of (space_of whole) ≡ own_fault (space_of whole)
  first-own = ap fault_of (space-Suspension part) ∙ first_own (space_of part) ready.0 fine ∙ sym (ap own_fault (space-Suspension part))

  pub ready_suspension : own_fault (space_of whole) ≡ None → IsReady (space_of whole)
  ready_suspension e =
      subst IsReady (sym (space-Suspension part)) (allowed_suspension (space_of part) ready.0 fine (sym (ap own_fault (space-Suspension part)) ∙ e), ready.1)

  abbrev told_by : Fault → Told Term
  told_by o = elim o [ Some fault ↦ refused (term_refusal fault) | None ↦ told whole ]

  -- from the check of the whole term
  module _ (t : Term) (same : t ≡ whole) where
    own-fault : (o : Fault) → o ≡ fault_of (space_of t) → own_fault (space_of whole) ≡ o
    own-fault o e = sym first-own ∙ sym (ap (λ u. fault_of (space_of u)) same) ∙ sym e

    pub suspension_told : None ≡ fault_of (space_of t) → told_whole whole ≡ told t
    suspension_told e = ap told_by (own-fault None e) ∙ ap told (sym same)

    pub suspension_ready : None ≡ fault_of (space_of t) → IsReady (space_of t)
    suspension_ready e = subst (λ u. IsReady (space_of u)) (sym same) (ready_suspension (own-fault None e))

    pub suspension_refused : (fault : TermFault) → Some fault ≡ fault_of (space_of t) → told_whole whole ≡ refused (term_refusal fault)
    suspension_refused fault e = ap told_by (own-fault (Some fault) e)
