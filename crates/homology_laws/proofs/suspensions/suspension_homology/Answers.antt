use Rattle.fp_field.specs.Field.{number}
use Rattle.fp_field.proofs.FieldLaws.{is_field}
use Rattle.homology_laws.proofs.SuspendedMaps.{suspension-reduction_to}
use Rattle.homology_laws.proofs.SuspendedLists.{suspension-reduction, suspension-lists, simple-back, simple-reduction, simple-lists}
use Rattle.homology_laws.proofs.suspensions.suspension_homology.Goals as goal

pub returns : goal.returns
returns c = record {
  reduction_to = λ a n is given r. suspension-reduction_to (number c.args.p) (is_field c.args.p) a is given n r;
  reduction = suspension-reduction (number c.args.p) (is_field c.args.p);
  lists = suspension-lists (number c.args.p) (is_field c.args.p);
  given_back = simple-back (number c.args.p) (is_field c.args.p);
  simple = simple-reduction (number c.args.p) (is_field c.args.p);
  list = simple-lists (number c.args.p) (is_field c.args.p);
}
