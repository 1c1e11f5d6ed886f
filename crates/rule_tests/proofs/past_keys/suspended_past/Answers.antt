use Rattle.std.proofs.Common.{sym, ◌∙◌, subst}
use Rattle.fp_field.specs.declared.prime.Prime.TheVariants.{Three}
use Rattle.term_lang.specs.declared.terms.Term.TheVariants.{Suspension, KZ1}
use Rattle.oracle_iface.specs.declared.keys.Op.TheVariants.{F}
use Rattle.oracle_iface.specs.declared.keys.Place.TheVariants.{Big as BigPlace}
use Rattle.susp_rules.specs.Treated.{IsTreated}
use Rattle.rule_tests.proofs.PastKeys.{up_past-treated}
use Rattle.rule_tests.proofs.past_keys.suspended_past.Goals as goal

pub returns : goal.returns
returns c =
    subst (λ t. IsTreated (record { op = F; prime = Three; place = BigPlace c.in_ok-up_past.field-0; term = t })) (sym (c.in_ok-new.ensures ∙ c.in_ok-term.ensures))
    (subst (λ x. IsTreated (record { op = F; prime = Three; place = BigPlace x; term = Suspension KZ1 })) (sym c.in_ok-up_past.ensures) (up_past-treated Three))
