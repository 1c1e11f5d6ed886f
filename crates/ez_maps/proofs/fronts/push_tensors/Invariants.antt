use Rattle.std.proofs.Common.{◌≡◌, ℕ, ◌+◌, ◌<◌, cond, All, take}
use Rattle.fp_field.specs.Field.{number}
use Rattle.fp_field.specs.Chains.{weigh, EachKey}
use Rattle.spaces.specs.Orders.{ordered}
use Rattle.spaces.specs.EilenbergZilber.{is_tensor_cell}
use Rattle.chain_core.specs.Formal.{numbers}
use Rattle.ez_flow.specs.Parts.{left_of}
use Rattle.ez_maps.specs.Tensors.{IsTensorOf, tensor_form}
use Rattle.ez_maps.proofs.fronts.push_tensors.Given as goal

abbrev pub invariant-loop-s : goal.invariant-loop-s
invariant-loop-s g l = record {
  elements : All (λ t. t.1.value < number l.fn.p) l.into.items;
  tensors : EachKey (IsTensorOf (g.X.FlowFaces.is_left l.x) (g.X.FlowFaces.is_right l.x) (g.X.FlowFaces.left_degree_of l.x) (l.i + l.k)) (numbers l.into.items);
  sum : (w : _ → ℕ)
      → weigh (λ t. w (tensor_form (g.X.FlowFaces.left_degree_of l.x) (g.X.FlowFaces.left_form l.x) (g.X.FlowFaces.right_form l.x) t)) (numbers l.into.items)
      ≡ weigh (λ t. w (tensor_form (g.X.FlowFaces.left_degree_of l.x) (g.X.FlowFaces.left_form l.x) (g.X.FlowFaces.right_form l.x) t)) (numbers l.initial.into.items)
      + weigh (λ s. cond (is_tensor_cell (number l.fn.p) (left_of (g.X.FlowFaces.has_letters l.x) (number l.fn.p) (g.X.FlowFaces.left_space l.x)) (ordered (g.X.FlowFaces.right_space l.x))
      (l.i, g.X.FlowFaces.left_form l.x s, l.k, g.X.FlowFaces.right_form l.x l.right)) (w (l.i, g.X.FlowFaces.left_form l.x s, l.k, g.X.FlowFaces.right_form l.x l.right)) 0) (take l.s-index (numbers l.chain));
}
