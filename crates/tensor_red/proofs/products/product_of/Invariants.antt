use Rattle.std.proofs.Common.{ℕ, ◌+◌, ◌<◌, All, vec_len}
use Rattle.fp_field.specs.Field.{number, SameMod}
use Rattle.fp_field.specs.Chains.{weigh}
use Rattle.chain_core.specs.Formal.{numbers}
use Rattle.tensor_red.specs.Products.{product_in}
use Rattle.tensor_red.specs.Tensors.{tensors}
use Rattle.tensor_red.proofs.products.product_of.Given as goal

abbrev pub invariant-loop-key : goal.invariant-loop-key
invariant-loop-key g l = record {
  left : All (λ t. t.1.value < number l.p) l.rest.items;
  pushed : All (λ t. t.1.value < number l.p) l.terms.items;
  sum : (w : _ → ℕ) → SameMod (number l.p) (weigh w (numbers l.terms.items) + weigh w (product_in tensors (numbers l.rest.items) l.right.terms))
      (weigh w (numbers l.initial.terms.items) + weigh w (product_in tensors (numbers l.initial.rest.items) l.right.terms));
}

abbrev pub decreases-loop-key : goal.decreases-loop-key
decreases-loop-key g l = vec_len l.rest
