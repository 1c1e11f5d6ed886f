use Rattle.fp_field.specs.Field.{number}
use Rattle.fp_field.proofs.FieldLaws.{is_field}
use Rattle.twist_laws.proofs.ProductReductions.{product-reduction_to, product-reduction}
use Rattle.twist_laws.proofs.AssembledHomology.{pos, product-lists}
use Rattle.twist_laws.proofs.reductions.product_reduction.Goals as goal

pub returns : goal.returns
returns c = record {
  reduction_to = λ a b n is given r s. product-reduction_to (number c.args.p) (pos (number c.args.p) (is_field c.args.p)) a b is.0.0 is.0.1 given n r s;
  reduction = λ a b is given r s. product-reduction (number c.args.p) (is_field c.args.p) a b is.0 given r s;
  lists = product-lists (number c.args.p) (is_field c.args.p);
}
