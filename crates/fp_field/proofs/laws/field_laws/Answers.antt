use Rattle.fp_field.proofs.FieldLaws.{is_field}
use Rattle.fp_field.proofs.laws.field_laws.Goals as goal

pub returns : goal.returns
returns c = is_field c.args.p
