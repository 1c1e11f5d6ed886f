use Rattle.std.proofs.Common.{ℕ, ◌+◌, ◌*◌, ◌<◌, All, vec_len}
use Rattle.fp_field.specs.Field.{number, SameMod}
use Rattle.fp_field.specs.Chains.{weigh, EachKey}
use Rattle.chain_core.specs.Formal.{numbers}
use Rattle.ez_maps.proofs.fronts.push_last_face.Given as goal

abbrev pub invariant-loop-z : goal.invariant-loop-z
invariant-loop-z g l = record {
  left : All (λ t. t.1.value < number l.p) l.faces.items;
  left_simplices : EachKey (g.X.FlowFaces.is_left l.x l.i) (numbers l.faces.items);
  pushed : All (λ t. t.1.value < number l.p) l.into.items;
  simplices : EachKey (g.X.FlowFaces.is_left l.x l.i) (numbers l.into.items);
  sum : (w : _ → ℕ) → SameMod (number l.p)
      (weigh (λ t. w (g.X.FlowFaces.left_form l.x t)) (numbers l.into.items) + l.c.value * weigh (λ t. w (g.X.FlowFaces.left_form l.x t)) (numbers l.faces.items))
      (weigh (λ t. w (g.X.FlowFaces.left_form l.x t)) (numbers l.initial.into.items) + l.c.value * weigh (λ t. w (g.X.FlowFaces.left_form l.x t)) (numbers l.initial.faces.items));
}

abbrev pub decreases-loop-z : goal.decreases-loop-z
decreases-loop-z g l = vec_len l.faces
