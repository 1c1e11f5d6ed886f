-- The tensors of a chain of left simplices with one right simplex, where none is degenerate.
--
--   a left simplex whose mask is not 0 gives no tensor
use Rattle.std.specs.Prelude.{◌==◌, cond, List, [], ◌∷◌}
use Rattle.fp_field.specs.declared.element.Fp.{Fp}
use Rattle.cells.specs.declared.cells.Cell.{Cell}
use Rattle.cells.specs.declared.cells.Simplex.{Simplex}
use Rattle.tensor_red.specs.declared.tensors.Tensor.{Tensor}

-- the tensor of two simplices with this number, unless the left one is degenerate
abbrev pub cut_term : Simplex → Simplex → Fp → List (Tensor Cell Cell × Fp)
cut_term y z a = cond (z.degens.mask == 0) ((record { left = z.cell; right = y.cell }, a) ∷ []) []
