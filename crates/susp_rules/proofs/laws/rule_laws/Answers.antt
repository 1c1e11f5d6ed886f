use Rattle.std.proofs.Common.{sym, subst, arith}
use Rattle.fp_field.specs.Field.{number}
use Rattle.fp_field.proofs.FieldLaws.{is_field}
use Rattle.values.specs.BaseLaws.{IsSimple}
use Rattle.values.specs.Outcomes.{usual_limits}
use Rattle.values.proofs.BasesRows.{simple-outcome_back}
use Rattle.oracle_iface.specs.Keys.{question_of}
use Rattle.oracle_iface.proofs.CyclesNeeds.{key-space}
use Rattle.homology_laws.proofs.SuspendedLists.{simple-reduction}
use Rattle.susp_rules.proofs.laws.rule_laws.Goals as goal

pub returns : goal.returns
returns c = record {
  suspendable = λ a is u part whole r. record {
    part_cells = part;
    cells = whole;
    degrees = (simple-reduction (number c.args.p) (is_field c.args.p) a (is.0.0, omega (arith, is.1)) u r 0).degrees;
  };
  back = λ k u. simple-outcome_back usual_limits (number k.prime) (question_of k) (subst IsSimple (sym (key-space k)) u);
}
