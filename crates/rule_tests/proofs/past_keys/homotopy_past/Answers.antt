use Rattle.std.proofs.Common.{sym, subst}
use Rattle.fp_field.specs.declared.prime.Prime.TheVariants.{Two}
use Rattle.term_lang.specs.declared.terms.Term.TheVariants.{KZ1}
use Rattle.oracle_iface.specs.declared.keys.Op.TheVariants.{H}
use Rattle.oracle_iface.specs.declared.keys.Place.TheVariants.{Big as BigPlace}
use Rattle.susp_rules.specs.Treated.{IsTreated}
use Rattle.rule_tests.proofs.PastKeys.{past-treated}
use Rattle.rule_tests.proofs.past_keys.homotopy_past.Goals as goal

pub returns : goal.returns
returns c =
    subst (λ t. IsTreated (record { op = H; prime = Two; place = BigPlace c.in_ok-past.field-0; term = t })) (sym c.in_ok-new.ensures)
    (subst (λ x. IsTreated (record { op = H; prime = Two; place = BigPlace x; term = KZ1 })) (sym c.in_ok-past.ensures) (past-treated Two))
