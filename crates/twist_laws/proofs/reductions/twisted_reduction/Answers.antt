use Rattle.fp_field.specs.Field.{number}
use Rattle.fp_field.proofs.FieldLaws.{is_field}
use Rattle.twist_laws.proofs.TwistedSpaces.{path-reduction_to}
use Rattle.twist_laws.proofs.AssembledHomology.{pos, cyclic-to, cyclic-lists}
use Rattle.twist_laws.proofs.reductions.twisted_reduction.Goals as goal

pub returns : goal.returns
returns c = record {
  paths_to = λ a n is given r s. path-reduction_to (number c.args.p) (pos (number c.args.p) (is_field c.args.p)) a is.0 given n r s;
  cyclic_to = cyclic-to (number c.args.p) (is_field c.args.p);
  cyclic_list = cyclic-lists (number c.args.p) (is_field c.args.p);
}
