use Rattle.fp_field.specs.Field.{number}
use Rattle.fp_field.proofs.FieldLaws.{is_field}
use Rattle.homology_laws.proofs.IntegersLists.{circle-reduction, integers-lists}
use Rattle.homology_laws.proofs.integers.integers_homology.Goals as goal

pub returns : goal.returns
returns c = record { reduction = circle-reduction (number c.args.p) (is_field c.args.p); list = λ n. integers-lists (number c.args.p) (is_field c.args.p) n }
