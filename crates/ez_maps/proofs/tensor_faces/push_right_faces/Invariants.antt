use Rattle.std.proofs.Common.{ℕ, suc, ◌+◌, ◌*◌, ◌<◌, All}
use Rattle.fp_field.specs.Field.{number, SameMod}
use Rattle.fp_field.specs.Chains.{weigh, EachKey}
use Rattle.spaces.specs.Orders.{ordered}
use Rattle.chain_core.specs.Formal.{numbers}
use Rattle.ez_laws.specs.Complexes.{right_faces}
use Rattle.ez_flow.specs.Parts.{left_of, left_in}
use Rattle.ez_maps.specs.Tensors.{IsTensorOf, tensor_form}
use Rattle.ez_maps.proofs.CutSteps.{kept}
use Rattle.ez_maps.proofs.tensor_faces.push_right_faces.Given as goal

abbrev pub invariant-loop-j : goal.invariant-loop-j
invariant-loop-j g l = record {
  pushed : All (λ t. t.1.value < number l.p) l.into.items;
  tensors : EachKey (IsTensorOf (g.X.FlowFaces.is_left l.x) (g.X.FlowFaces.is_right l.x) (g.X.FlowFaces.left_degree_of l.x) (l.i + l.k)) (numbers l.into.items);
  sum : (w : _ → ℕ) → SameMod (number l.p) (weigh (λ t. w (tensor_form (g.X.FlowFaces.left_degree_of l.x) (g.X.FlowFaces.left_form l.x) (g.X.FlowFaces.right_form l.x) t)) (numbers l.into.items))
      (weigh (λ t. w (tensor_form (g.X.FlowFaces.left_degree_of l.x) (g.X.FlowFaces.left_form l.x) (g.X.FlowFaces.right_form l.x) t)) (numbers l.initial.into.items)
      + l.a.value * weigh (kept (number l.p) (left_of (g.X.FlowFaces.has_letters l.x) (number l.p) (g.X.FlowFaces.left_space l.x)) (ordered (g.X.FlowFaces.right_space l.x)) w) (right_faces (number l.p) (left_of (g.X.FlowFaces.has_letters l.x) (number l.p) (g.X.FlowFaces.left_space l.x)) (left_in (g.X.FlowFaces.has_letters l.x) (g.X.FlowFaces.left_space l.x)) (ordered (g.X.FlowFaces.right_space l.x)) l.j (l.i, g.X.FlowFaces.left_form l.x l.left, suc l.k, g.X.FlowFaces.right_form l.x l.right)));
}
