use Rattle.std.proofs.Common.{refl, ◌∙◌}
use Rattle.std.proofs.lemmas.Result.{IfOk-weaker}
use Rattle.fp_field.specs.Field.{number}
use Rattle.fp_field.specs.Reduction.{one}
use Rattle.tensor_red.specs.Products.{product_in}
use Rattle.tensor_red.specs.Tensors.{tensors}
use Rattle.tensor_red.specs.TensorOrder.{tensor_cmp, one_tensor, tensor_total}
use Rattle.tensor_red.proofs.AlikeChains.{alike_normal, product_alike, sum_is, itself}
use Rattle.tensor_red.proofs.products.boundary.Goals as goal

pub signed_sum-requires-clause-one_key : goal.signed_sum-requires-clause-one_key
signed_sum-requires-clause-one_key g c = one_tensor g.X.Ord.cmp g.Y.Ord.cmp c.requires.left_one_key c.requires.right_one_key

pub returns-clause-sum : goal.returns-clause-sum
returns-clause-sum g c = IfOk-weaker c.signed_sum.result _ _ (λ s e.
    sum_is (tensor_cmp g.X.Ord.cmp g.Y.Ord.cmp) (one_tensor g.X.Ord.cmp g.Y.Ord.cmp c.requires.left_one_key c.requires.right_one_key)
    (tensor_total g.X.Ord.cmp g.Y.Ord.cmp g.met.X.Ord.total g.met.Y.Ord.total) c.args.left.prime
    s.terms c.in_ok-first.first.prime c.args.degree c.in_ok-first.first.terms c.in_ok-second.second.terms
    (product_in tensors c.args.left.terms (one c.args.x.now.right)) (product_in tensors (one c.args.x.now.left) c.args.right.terms) e c.in_ok-first.ensures.prime
    (product_alike (tensor_cmp g.X.Ord.cmp g.Y.Ord.cmp) (one_tensor g.X.Ord.cmp g.Y.Ord.cmp c.requires.left_one_key c.requires.right_one_key)
    (tensor_total g.X.Ord.cmp g.Y.Ord.cmp g.met.X.Ord.total g.met.Y.Ord.total) c.args.left.prime tensors
    c.in_ok-first.first.terms c.args.left.prime c.args.left.terms c.args.left.terms c.in_ok-single.field-0.terms (one c.args.x.now.right) c.in_ok-first.ensures.product refl
    (itself (number c.args.left.prime) c.args.left.terms)
    (alike_normal g.Y.Ord.cmp c.requires.right_one_key c.args.left.prime c.prime-p.result c.in_ok-single.field-0.terms (one c.args.x.now.right) c.in_ok-single.ensures.terms c.prime-p.ensures))
    (product_alike (tensor_cmp g.X.Ord.cmp g.Y.Ord.cmp) (one_tensor g.X.Ord.cmp g.Y.Ord.cmp c.requires.left_one_key c.requires.right_one_key)
    (tensor_total g.X.Ord.cmp g.Y.Ord.cmp g.met.X.Ord.total g.met.Y.Ord.total) c.args.left.prime tensors
    c.in_ok-second.second.terms c.in_ok-single-2.field-0.prime c.in_ok-single-2.field-0.terms (one c.args.x.now.left) c.args.right.terms c.args.right.terms c.in_ok-second.ensures.product
    (c.in_ok-single-2.ensures.prime ∙ c.prime-p.ensures)
    (alike_normal g.X.Ord.cmp c.requires.left_one_key c.args.left.prime c.prime-p.result c.in_ok-single-2.field-0.terms (one c.args.x.now.left) c.in_ok-single-2.ensures.terms c.prime-p.ensures)
    (itself (number c.args.left.prime) c.args.right.terms))) c.signed_sum.ensures.sum
