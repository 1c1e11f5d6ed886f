-- What is told of a product whose parts are ready, from the check of its term.
use Rattle.std.proofs.Common.{◌≡◌, Some, None, sym, ◌∙◌, ap, subst}
use Rattle.term_lang.specs.declared.terms.Term.{Term}
use Rattle.term_lang.specs.declared.terms.Term.TheVariants.{Product as ProductTerm}
use Rattle.term_lang.specs.declared.faults.TermFault.{TermFault}
use Rattle.term_lang.specs.SpaceOf.{space_of}
use Rattle.term_lang.specs.TermFaults.{Fault, own_fault, fault_of}
use Rattle.term_lang.proofs.SpacesOfTerms.{space-Product}
use Rattle.session_core.specs.Answer.{Told, told, refused, term_refusal, told_whole}
use Rattle.session_core.specs.Whole.{IsReady}
use Rattle.session_core.proofs.NoFaults.{no_fault, product_own, allowed_product}

module _ (left right : Term) (left_is : IsReady (space_of left)) (right_is : IsReady (space_of right)) where
  abbrev whole : Term
  whole = ProductTerm left right

  first-own : fault_of (space_of whole) ≡ own_fault (space_of whole)
  first-own =
      ap fault_of (space-Product left right)
      ∙ product_own (space_of left) (space_of right) left_is.0 right_is.0 (no_fault (space_of left) left_is.0) (no_fault (space_of right) right_is.0)
      ∙ sym (ap own_fault (space-Product left right))

  pub ready_product : own_fault (space_of whole) ≡ None → IsReady (space_of whole)
  ready_product e =
      subst IsReady (sym (space-Product left right)) (
        allowed_product (space_of left) (space_of right) left_is.0 right_is.0 (no_fault (space_of left) left_is.0) (no_fault (space_of right) right_is.0)
            (sym (ap own_fault (space-Product left right)) ∙ e),
        (left_is.1, right_is.1),
      )

  abbrev told_by : Fault → Told Term
  told_by o = elim o [ Some fault ↦ refused (term_refusal fault) | None ↦ told whole ]

  -- from the check of the whole term
  module _ (t : Term) (same : t ≡ whole) where
    own-fault : (o : Fault) → o ≡ fault_of (space_of t) → own_fault (space_of whole) ≡ o
    own-fault o e = sym first-own ∙ sym (ap (λ u. fault_of (space_of u)) same) ∙ sym e

    pub product_told : None ≡ fault_of (space_of t) → told_whole whole ≡ told t
    product_told e = ap told_by (own-fault None e) ∙ ap told (sym same)

    pub product_ready : None ≡ fault_of (space_of t) → IsReady (space_of t)
    product_ready e = subst (λ u. IsReady (space_of u)) (sym same) (ready_product (own-fault None e))

    pub product_refused : (fault : TermFault) → Some fault ≡ fault_of (space_of t) → told_whole whole ≡ refused (term_refusal fault)
    product_refused fault e = ap told_by (own-fault (Some fault) e)
