use Rattle.std.proofs.Common.{◌≡◌, sym, ◌∙◌, ap}
use Rattle.term_lang.specs.declared.terms.Term.TheVariants.{Suspension as SuspensionTerm}
use Rattle.term_lang.specs.SpaceOf.{space_of}
use Rattle.term_lang.specs.TermFaults.{fault_of}
use Rattle.session_core.specs.Answer.{refused}
use Rattle.session_core.proofs.SuspensionFaults.{suspension_told, suspension_ready, suspension_refused}
use Rattle.session_core.proofs.parts.told_suspension.Goals.{In_ok-whole}
use Rattle.session_core.proofs.parts.told_suspension.Goals as goal

whole_is : (c : In_ok-whole) → c.in_ok-whole.whole ≡ SuspensionTerm c.args.part.now
whole_is c = c.in_ok-whole.ensures ∙ ap SuspensionTerm (c.in_ok-new.ensures ∙ c.in_ok-copy.ensures ∙ c.get.ensures)

pub returns-in-Ok-clause-told : goal.returns-in-Ok-clause-told
returns-in-Ok-clause-told c =
    suspension_told c.args.part.now c.requires c.in_ok-whole.whole (whole_is (goal.at.returns-in-Ok-clause-told c).In_ok-whole)
    (c.in-Ok.ensures.fault ∙ ap (λ t. fault_of (space_of t)) c.get-2.ensures)

pub returns-in-Ok-clause-ready : goal.returns-in-Ok-clause-ready
returns-in-Ok-clause-ready c =
    suspension_ready c.args.part.now c.requires c.in_ok-whole.whole (whole_is (goal.at.returns-in-Ok-clause-ready c).In_ok-whole)
    (c.in-Ok.ensures.fault ∙ ap (λ t. fault_of (space_of t)) c.get-2.ensures)

pub returns-in-Err-clause-stops : goal.returns-in-Err-clause-stops
returns-in-Err-clause-stops c =
    suspension_refused c.args.part.now c.requires c.in_ok-whole.whole (whole_is (goal.at.returns-in-Err-clause-stops c).In_ok-whole) c.in-Err.fault
    (c.in-Err.ensures.fault ∙ ap (λ t. fault_of (space_of t)) c.get-2.ensures)
    ∙ ap (λ x. refused x) (sym c.term_refusal.ensures)
