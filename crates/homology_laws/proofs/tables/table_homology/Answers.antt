use Rattle.fp_field.specs.Field.{number}
use Rattle.fp_field.proofs.FieldLaws.{is_field}
use Rattle.homology_laws.proofs.TableLists.{table-reduction, table-lists}
use Rattle.homology_laws.proofs.tables.table_homology.Goals as goal

pub returns : goal.returns
returns c = record { reduction = λ t is. table-reduction (number c.args.p) (is_field c.args.p) t is; list = λ t n. table-lists (number c.args.p) (is_field c.args.p) t n }
