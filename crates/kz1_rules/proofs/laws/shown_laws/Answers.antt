use Rattle.fp_field.specs.Field.{number}
use Rattle.fp_field.proofs.FieldLaws.{is_field}
use Rattle.kz1_rules.proofs.ShownValues.{integers-shown}
use Rattle.kz1_rules.proofs.laws.shown_laws.Goals as goal

pub returns : goal.returns
returns c = integers-shown (number c.args.p) (is_field c.args.p).one_is_not_zero
