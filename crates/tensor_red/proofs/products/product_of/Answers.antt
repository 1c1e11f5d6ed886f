use Rattle.std.proofs.Common.{◌<◌, Some, subst, arith}
use Rattle.std.proofs.lemmas.Result.{IfOk-weaker}
use Rattle.std.proofs.lemmas.List.Elements.{All-pop}
use Rattle.fp_field.specs.Field.{number, SameMod}
use Rattle.fp_field.specs.Chains.{weigh}
use Rattle.chain_core.specs.Formal.{numbers}
use Rattle.tensor_red.specs.Products.{product_in}
use Rattle.tensor_red.specs.Tensors.{tensors}
use Rattle.tensor_red.specs.TensorOrder.{tensor_cmp, one_tensor, tensor_total}
use Rattle.tensor_red.proofs.AlikeChains.{normal_of}
use Rattle.tensor_red.proofs.RowSteps.{rows_step, rows_done}
use Rattle.tensor_red.proofs.products.product_of.Goals as goal

pub push_row-requires-clause-element : goal.push_row-requires-clause-element
push_row-requires-clause-element g c =
    (All-pop (λ t. t.1.value < number c.prime-p.result) c.loop-key.rest.items c.pop.new.self.items (Some (c.in-Some.key, c.in-Some.number)) c.in-Some.ensures.items c.loop-key.invariant.left).1

pub loop-key-preserved : goal.loop-key-preserved
loop-key-preserved g c = record {
  left = (All-pop (λ t. t.1.value < number c.prime-p.result) c.loop-key.rest.items c.pop.new.self.items (Some (c.in-Some.key, c.in-Some.number)) c.in-Some.ensures.items c.loop-key.invariant.left).0;
  pushed = c.in_ok-push_row.ensures.elements;
  sum = λ w.
      rows_step tensors (number c.prime-p.result) w c.loop-key.rest.items c.pop.new.self.items (c.in-Some.key, c.in-Some.number) c.args.right.now.terms
      (weigh w (numbers c.loop-key.terms.items)) (weigh w (numbers c.push_row.new.terms.items)) _ c.in-Some.ensures.items (c.in_ok-push_row.ensures.sum w) (c.loop-key.invariant.sum w);
}

pub returns-clause-product : goal.returns-clause-product
returns-clause-product g c = IfOk-weaker c.from_terms.result _ _ (λ s e.
    normal_of (tensor_cmp g.X.Ord.cmp g.Y.Ord.cmp) (one_tensor g.X.Ord.cmp g.Y.Ord.cmp c.requires.left_one_key c.requires.right_one_key)
    (tensor_total g.X.Ord.cmp g.Y.Ord.cmp g.met.X.Ord.total g.met.Y.Ord.total) c.args.left.prime s.terms (numbers c.loop-key.terms.items)
    (product_in tensors c.args.left.terms c.args.right.now.terms) c.prime-p.result e c.prime-p.ensures (λ w.
    subst (λ q. SameMod (number q) (weigh w (numbers c.loop-key.terms.items)) (weigh w (product_in tensors c.args.left.terms c.args.right.now.terms))) c.prime-p.ensures
    (rows_done tensors (number c.prime-p.result) w c.loop-key.rest.items c.args.left.terms c.args.right.now.terms (weigh w (numbers c.loop-key.terms.items))
    (omega (arith, c.loop-key.rest.ok.0, c.in_default.ensures.cases.0))
    (rw (c.new-terms.ensures.items, c.into_terms-rest.ensures.terms) at (c.loop-key.invariant.sum w))))) c.from_terms.ensures.sum
