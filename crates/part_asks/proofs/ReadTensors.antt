-- Tensors of cells, read by the forms of their cells and by those of their simplices without degeneracies.
use Rattle.std.proofs.Common.{◌≡◌, [], ◌∷◌, refl}
use Rattle.fp_field.specs.Chains.{Terms}
use Rattle.fp_field.specs.declared.prime.Prime.{Prime}
use Rattle.simp_ops.specs.Bits.{places}
use Rattle.spaces.specs.Spaces.{Space}
use Rattle.cells.specs.declared.cells.Cell.{Cell}
use Rattle.cells.specs.Dim.{dim_of}
use Rattle.ez_laws.specs.Sides.{on_keys}
use Rattle.ez_maps.specs.Tensors.{bare, tensor_form}
use Rattle.tensor_red.specs.declared.tensors.Tensor.{Tensor}
use Rattle.term_lang.specs.Forms.{cell_form, form}
use Rattle.part_asks.specs.Askers.{read_cells}

pub bare-form : (c : Cell) (a : Space) → form (bare c) a ≡ cell_form c a
unfolding places
bare-form c a = refl

module _ (p : Prime) (a b : Space) where
  pub read-same : (x : Tensor Cell Cell) → tensor_form dim_of (λ s. form s a) (λ s. form s b) x ≡ read_cells p a b x
  read-same x = λ i. (dim_of x.left, bare-form x.left a i, dim_of x.right, bare-form x.right b i)

  pub reads-same : (c : Terms (Tensor Cell Cell)) → on_keys (tensor_form dim_of (λ s. form s a) (λ s. form s b)) c ≡ on_keys (read_cells p a b) c
  reads-same [] = refl
  reads-same (t ∷ c) = λ i. (read-same t.0 i, t.1) ∷ reads-same c i
