use Rattle.std.proofs.Common.{ℕ, ◌+◌, ◌*◌, ◌<◌, All, vec_len}
use Rattle.fp_field.specs.Field.{number, SameMod}
use Rattle.fp_field.specs.Chains.{weigh, EachKey}
use Rattle.spaces.specs.Orders.{ordered}
use Rattle.chain_core.specs.Formal.{numbers}
use Rattle.ez_flow.specs.Parts.{left_of}
use Rattle.ez_maps.specs.Tensors.{IsTensorOf, tensor_form}
use Rattle.ez_maps.proofs.CutSteps.{kept}
use Rattle.ez_maps.proofs.tensor_faces.push_left_face.Given as goal

abbrev pub invariant-loop-z : goal.invariant-loop-z
invariant-loop-z g l = record {
  left : All (λ t. t.1.value < number l.p) l.faces.items;
  simplices : EachKey (g.X.FlowFaces.is_left l.x l.i) (numbers l.faces.items);
  pushed : All (λ t. t.1.value < number l.p) l.into.items;
  tensors : EachKey (IsTensorOf (g.X.FlowFaces.is_left l.x) (g.X.FlowFaces.is_right l.x) (g.X.FlowFaces.left_degree_of l.x) (l.i + l.k)) (numbers l.into.items);
  sum : (w : _ → ℕ) → SameMod (number l.p)
      (weigh (λ t. w (tensor_form (g.X.FlowFaces.left_degree_of l.x) (g.X.FlowFaces.left_form l.x) (g.X.FlowFaces.right_form l.x) t)) (numbers l.into.items) + l.a.value * weigh (λ z. kept (number l.p) (left_of (g.X.FlowFaces.has_letters l.x) (number l.p) (g.X.FlowFaces.left_space l.x)) (ordered (g.X.FlowFaces.right_space l.x)) w (l.i, g.X.FlowFaces.left_form l.x z, l.k, g.X.FlowFaces.right_form l.x l.right)) (numbers l.faces.items))
      (weigh (λ t. w (tensor_form (g.X.FlowFaces.left_degree_of l.x) (g.X.FlowFaces.left_form l.x) (g.X.FlowFaces.right_form l.x) t)) (numbers l.initial.into.items) + l.a.value * weigh (λ z. kept (number l.p) (left_of (g.X.FlowFaces.has_letters l.x) (number l.p) (g.X.FlowFaces.left_space l.x)) (ordered (g.X.FlowFaces.right_space l.x)) w (l.i, g.X.FlowFaces.left_form l.x z, l.k, g.X.FlowFaces.right_form l.x l.right)) (numbers l.initial.faces.items));
}

abbrev pub decreases-loop-z : goal.decreases-loop-z
decreases-loop-z g l = vec_len l.faces
