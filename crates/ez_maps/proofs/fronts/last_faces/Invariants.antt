use Rattle.std.proofs.Common.{ℕ, suc, ◌+◌, ◌<◌, All, vec_len}
use Rattle.fp_field.specs.Field.{number, SameMod}
use Rattle.fp_field.specs.Chains.{weigh, EachKey}
use Rattle.chain_core.specs.Formal.{numbers}
use Rattle.ez_flow.specs.Parts.{left_of}
use Rattle.ez_maps.proofs.fronts.last_faces.Given as goal

abbrev pub invariant-loop-s : goal.invariant-loop-s
invariant-loop-s g l = record {
  left_elements : All (λ t. t.1.value < number l.p) l.left.items;
  left : EachKey (g.X.FlowFaces.is_left l.x (suc l.i)) (numbers l.left.items);
  elements : All (λ t. t.1.value < number l.p) l.faces.items;
  simplices : EachKey (g.X.FlowFaces.is_left l.x l.i) (numbers l.faces.items);
  sum : (w : _ → ℕ) → SameMod (number l.p)
      (weigh (λ t. w (g.X.FlowFaces.left_form l.x t)) (numbers l.faces.items)
      + weigh (λ t. weigh w ((left_of (g.X.FlowFaces.has_letters l.x) (number l.p) (g.X.FlowFaces.left_space l.x)).faces (suc l.i) (suc l.i) (g.X.FlowFaces.left_form l.x t))) (numbers l.left.items))
      (weigh (λ t. w (g.X.FlowFaces.left_form l.x t)) (numbers l.initial.faces.items)
      + weigh (λ t. weigh w ((left_of (g.X.FlowFaces.has_letters l.x) (number l.p) (g.X.FlowFaces.left_space l.x)).faces (suc l.i) (suc l.i) (g.X.FlowFaces.left_form l.x t))) (numbers l.initial.left.items));
}

abbrev pub decreases-loop-s : goal.decreases-loop-s
decreases-loop-s g l = vec_len l.left
