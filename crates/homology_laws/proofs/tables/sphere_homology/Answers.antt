use Rattle.fp_field.specs.Field.{number}
use Rattle.fp_field.proofs.FieldLaws.{is_field}
use Rattle.homology_laws.proofs.TableLists.{sphere-reduction, sphere-lists}
use Rattle.homology_laws.proofs.tables.sphere_homology.Goals as goal

pub returns : goal.returns
returns c = record { reduction = λ m l. sphere-reduction (number c.args.p) (is_field c.args.p) m l; list = λ m n. sphere-lists (number c.args.p) (is_field c.args.p) m n }
