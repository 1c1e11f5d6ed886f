use Rattle.std.proofs.Common.{◌≡◌, sym, ◌∙◌, ap}
use Rattle.term_lang.specs.declared.terms.Term.TheVariants.{Product as ProductTerm}
use Rattle.term_lang.specs.SpaceOf.{space_of}
use Rattle.term_lang.specs.TermFaults.{fault_of}
use Rattle.session_core.specs.Answer.{refused}
use Rattle.session_core.proofs.ProductFaults.{product_told, product_ready, product_refused}
use Rattle.session_core.proofs.fibrations.told_product.Goals.{In_ok-whole}
use Rattle.session_core.proofs.fibrations.told_product.Goals as goal

whole_is : (c : In_ok-whole) → c.in_ok-whole.whole ≡ ProductTerm c.args.left.now c.args.right.now
whole_is c =
    c.in_ok-whole.ensures
    ∙ (λ i. ProductTerm ((c.in_ok-first.ensures ∙ c.in_ok-copy_term.ensures ∙ c.get.ensures) i) ((c.in_ok-second.ensures ∙ c.in_ok-copy_term-2.ensures ∙ c.get-2.ensures) i))

pub returns-in-Ok-clause-told : goal.returns-in-Ok-clause-told
returns-in-Ok-clause-told c =
    product_told c.args.left.now c.args.right.now c.requires.left c.requires.right c.in_ok-whole.whole (whole_is (goal.at.returns-in-Ok-clause-told c).In_ok-whole)
    (c.in-Ok.ensures.fault ∙ ap (λ t. fault_of (space_of t)) c.get-3.ensures)

pub returns-in-Ok-clause-ready : goal.returns-in-Ok-clause-ready
returns-in-Ok-clause-ready c =
    product_ready c.args.left.now c.args.right.now c.requires.left c.requires.right c.in_ok-whole.whole (whole_is (goal.at.returns-in-Ok-clause-ready c).In_ok-whole)
    (c.in-Ok.ensures.fault ∙ ap (λ t. fault_of (space_of t)) c.get-3.ensures)

pub returns-in-Err-clause-stops : goal.returns-in-Err-clause-stops
returns-in-Err-clause-stops c =
    product_refused c.args.left.now c.args.right.now c.requires.left c.requires.right c.in_ok-whole.whole (whole_is (goal.at.returns-in-Err-clause-stops c).In_ok-whole) c.in-Err.fault
    (c.in-Err.ensures.fault ∙ ap (λ t. fault_of (space_of t)) c.get-3.ensures)
    ∙ ap (λ x. refused x) (sym c.term_refusal.ensures)
