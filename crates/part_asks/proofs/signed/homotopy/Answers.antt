use Rattle.std.proofs.Common.{refl}
use Rattle.std.proofs.lemmas.Result.{IfOk-weaker}
use Rattle.fp_field.specs.Field.{number}
use Rattle.fp_field.specs.Reduction.{one}
use Rattle.tensor_red.specs.Products.{product_in}
use Rattle.tensor_red.specs.Tensors.{tensors}
use Rattle.tensor_red.specs.TensorOrder.{tensor_cmp, one_tensor, tensor_total}
use Rattle.tensor_red.proofs.AlikeChains.{alike_normal, product_alike, sum_is, itself}
use Rattle.part_asks.proofs.signed.homotopy.Goals as goal

pub signed_sum-requires-clause-one_key : goal.signed_sum-requires-clause-one_key
signed_sum-requires-clause-one_key g c = one_tensor g.X.Ord.cmp g.Y.Ord.cmp c.requires.left_one_key c.requires.right_one_key

pub returns-clause-sum : goal.returns-clause-sum
returns-clause-sum g c = IfOk-weaker c.signed_sum.result _ _ (λ s e.
    sum_is (tensor_cmp g.X.Ord.cmp g.Y.Ord.cmp) (one_tensor g.X.Ord.cmp g.Y.Ord.cmp c.requires.left_one_key c.requires.right_one_key)
    (tensor_total g.X.Ord.cmp g.Y.Ord.cmp g.met.X.Ord.total g.met.Y.Ord.total) c.args.own.prime
    s.terms c.in_ok-first.first.prime c.args.degree c.in_ok-first.first.terms c.in_ok-second.second.terms
    (product_in tensors c.args.own.terms (one c.args.y.now)) (product_in tensors c.args.back.terms c.args.other.terms) e c.in_ok-first.ensures.prime
    (product_alike (tensor_cmp g.X.Ord.cmp g.Y.Ord.cmp) (one_tensor g.X.Ord.cmp g.Y.Ord.cmp c.requires.left_one_key c.requires.right_one_key)
    (tensor_total g.X.Ord.cmp g.Y.Ord.cmp g.met.X.Ord.total g.met.Y.Ord.total) c.args.own.prime tensors
    c.in_ok-first.first.terms c.args.own.prime c.args.own.terms c.args.own.terms c.in_ok-single.field-0.terms (one c.args.y.now) c.in_ok-first.ensures.product refl
    (itself (number c.args.own.prime) c.args.own.terms)
    (alike_normal g.Y.Ord.cmp c.requires.right_one_key c.args.own.prime c.prime-p.result c.in_ok-single.field-0.terms (one c.args.y.now) c.in_ok-single.ensures.terms c.prime-p.ensures))
    (product_alike (tensor_cmp g.X.Ord.cmp g.Y.Ord.cmp) (one_tensor g.X.Ord.cmp g.Y.Ord.cmp c.requires.left_one_key c.requires.right_one_key)
    (tensor_total g.X.Ord.cmp g.Y.Ord.cmp g.met.X.Ord.total g.met.Y.Ord.total) c.args.own.prime tensors
    c.in_ok-second.second.terms c.args.back.prime c.args.back.terms c.args.back.terms c.args.other.terms c.args.other.terms c.in_ok-second.ensures.product c.requires.prime
    (itself (number c.args.own.prime) c.args.back.terms) (itself (number c.args.own.prime) c.args.other.terms))) c.signed_sum.ensures.sum
