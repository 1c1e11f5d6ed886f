use Rattle.fp_field.specs.Field.{number}
use Rattle.fp_field.proofs.FieldLaws.{is_field}
use Rattle.susp_rules.proofs.ShownSuspensions.{degrees-shown, suspension-shown, simple-shown}
use Rattle.susp_rules.proofs.laws.shown_values.Goals as goal

pub returns : goal.returns
returns c = record {
  degrees = degrees-shown (number c.args.p);
  suspension = suspension-shown (number c.args.p) (is_field c.args.p);
  simple = simple-shown (number c.args.p) (is_field c.args.p);
}
