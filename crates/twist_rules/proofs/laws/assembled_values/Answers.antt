use Rattle.fp_field.specs.Field.{number}
use Rattle.fp_field.proofs.FieldLaws.{is_field}
use Rattle.normal_forms.proofs.BuiltForms.{built_cells}
use Rattle.susp_rules.proofs.ShownSuspensions.{degrees-shown}
use Rattle.twist_laws.proofs.AssembledHomology.{assembled-reduction}
use Rattle.twist_rules.proofs.laws.assembled_values.Goals as goal

pub returns : goal.returns
returns c = record {
  assembled = λ a is u cells. degrees-shown (number c.args.p) a is cells (assembled-reduction (number c.args.p) (is_field c.args.p) a is u 0).degrees;
  built = λ a is u built. degrees-shown (number c.args.p) a is (built_cells a is built) (assembled-reduction (number c.args.p) (is_field c.args.p) a is u 0).degrees;
}
