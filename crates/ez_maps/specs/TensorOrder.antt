-- The order of tensors of cells is a total order that tells any two apart.
use Rattle.std.proofs.Common.{◌≡◌}
use Rattle.std.specs.Cmp.{IsTotalOrder}
use Rattle.std.proofs.lemmas.Cmp.{then_total, on_total}
use Rattle.std.specs.declared.cmp.Ordering.TheVariants.{Equal}
use Rattle.cells.specs.declared.cells.Cell.{Cell}
use Rattle.cells.specs.Order.{cell_cmp}
use Rattle.cells.specs.Laws.{cell_total}
use Rattle.cells.proofs.OneKey.{one_cell}
use Rattle.spaces.proofs.Orders.{then-first, then-second}
use Rattle.ez_maps.specs.Tensors.{tensor_cmp}
use Rattle.tensor_red.specs.declared.tensors.Tensor.{Tensor}

pub one_tensor : (s t : Tensor Cell Cell) → tensor_cmp s t ≡ Equal → s ≡ t
one_tensor s t e =
    let a = one_cell s.left t.left (then-first (cell_cmp s.left t.left) (cell_cmp s.right t.right) e) in
    let b = one_cell s.right t.right (then-second (cell_cmp s.left t.left) (cell_cmp s.right t.right) e) in
    λ i. record { left = a i; right = b i }

pub tensor_total : IsTotalOrder tensor_cmp
tensor_total = then_total (on_total (λ t. t.left) cell_total) (on_total (λ t. t.right) cell_total)
