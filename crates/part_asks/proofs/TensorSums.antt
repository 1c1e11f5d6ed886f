-- Products of chains of cells as chains of tensors of the code, against those of the definitions.
use Rattle.std.proofs.Common.{◌≡◌, sym, ◌∙◌, ap}
use Rattle.fp_field.specs.declared.prime.Prime.{Prime}
use Rattle.fp_field.specs.Field.{number}
use Rattle.fp_field.specs.Chains.{Terms, Each}
use Rattle.fp_field.specs.Normal.{normal}
use Rattle.chain_core.specs.Formal.{Formal}
use Rattle.cells.specs.declared.cells.Cell.{Cell}
use Rattle.spaces.specs.Spaces.{Space}
use Rattle.values.specs.Asks.{Cell as GradedCell}
use Rattle.values.specs.Perturbed.{tensor_terms}
use Rattle.ez_maps.specs.Tensors.{tensor_cmp}
use Rattle.tensor_red.specs.Tensors.{tensors}
use Rattle.tensor_red.specs.declared.tensors.Tensor.{Tensor as CodeTensor}
use Rattle.tensor_red.specs.Products.{product_in}
use Rattle.oracle_iface.specs.Keys.{formal, quote_chain}
use Rattle.oracle_iface.specs.KeyLaws.{HasCells, IsShown}
use Rattle.oracle_iface.proofs.CarriedChains.{each-normal}
use Rattle.part_asks.specs.Askers.{formal_tensors}
use Rattle.part_asks.proofs.QuotedTensors.{IsShownTensor, by_tensor, terms-for, product-quoted, product-shown, normal-tensors}

module _ (p : Prime) (a b : Space) (cells_a : HasCells a) (cells_b : HasCells b) (c : Terms (GradedCell a)) (e : Terms (GradedCell b)) (c_shown : Each (IsShown a) c)
    (e_shown : Each (IsShown b) e) where
  -- the product of two chains that were found
  pub product-found : (u v : Formal Cell) → u ≡ formal p (quote_chain a c) → v ≡ formal p (quote_chain b e) → (x : Formal (CodeTensor Cell Cell)) → x.prime ≡ u.prime
      → x.terms ≡ normal tensor_cmp (number u.prime) (product_in tensors u.terms v.terms)
      → x ≡ formal_tensors p a b (normal (by_tensor a b cells_a cells_b (number p)) (number p) (tensor_terms c e))
  product-found u v is_u is_v x prime terms = λ i. record { prime = (prime ∙ ap (λ (z : Formal Cell). z.prime) is_u) i; terms = all i }
    where
      all : x.terms ≡ (formal_tensors p a b (normal (by_tensor a b cells_a cells_b (number p)) (number p) (tensor_terms c e))).terms
      all =
          terms ∙ (λ i. normal tensor_cmp (number (is_u i).prime) (product_in tensors (is_u i).terms (is_v i).terms))
          ∙ ap (normal tensor_cmp (number p)) (sym (product-quoted a b c e))
          ∙ normal-tensors a b cells_a cells_b (number p) (tensor_terms c e) (product-shown a b c e c_shown e_shown)
          ∙ sym (terms-for a b (normal (by_tensor a b cells_a cells_b (number p)) (number p) (tensor_terms c e))
          (each-normal (by_tensor a b cells_a cells_b (number p)) (number p) (IsShownTensor a b) (tensor_terms c e) (product-shown a b c e c_shown e_shown)))
