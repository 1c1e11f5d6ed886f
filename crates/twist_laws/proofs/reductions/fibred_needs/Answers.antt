use Rattle.fp_field.specs.Field.{number}
use Rattle.fp_field.proofs.FieldLaws.{is_field}
use Rattle.twist_laws.proofs.SpaceNeeds.{product-needs_of, path-needs_of, assembled-needs, loopless-needs}
use Rattle.twist_laws.proofs.reductions.fibred_needs.Goals as goal

pub returns : goal.returns
returns c = record {
  products = product-needs_of (number c.args.p) (is_field c.args.p);
  path_spaces = path-needs_of (number c.args.p) (is_field c.args.p);
  assembled = assembled-needs (number c.args.p) (is_field c.args.p);
  loopless = λ k u cyclic v. loopless-needs (number c.args.p) (is_field c.args.p) cyclic k u v;
}
