use Rattle.std.proofs.Common.{ℕ, ◌+◌, ◌*◌, ◌<◌, All, vec_len}
use Rattle.fp_field.specs.Field.{number, SameMod}
use Rattle.fp_field.specs.Chains.{weigh, EachKey}
use Rattle.spaces.specs.Orders.{ordered}
use Rattle.chain_core.specs.Formal.{numbers}
use Rattle.ez_flow.specs.Parts.{left_of, IsSourceOf, form_weight}
use Rattle.ez_flow.specs.Sources.{source_weight}
use Rattle.ez_flow.proofs.sources.add_face.Given as goal

abbrev pub invariant-loop-z : goal.invariant-loop-z
invariant-loop-z g l = record {
  left : All (λ t. t.1.value < number l.p) l.faces.items;
  simplices : EachKey (g.X.FlowFaces.is_left l.x l.n) (numbers l.faces.items);
  pushed : All (λ t. t.1.value < number l.p) l.into.items;
  pairs : EachKey (IsSourceOf (g.X.FlowFaces.is_left l.x) (g.X.FlowFaces.is_right l.x) l.n) (numbers l.into.items);
  sum : (w : _ → ℕ) → SameMod (number l.p)
      (weigh (form_weight (g.X.FlowFaces.left_form l.x) (g.X.FlowFaces.right_form l.x) l.n w) (numbers l.into.items)
      + l.k.value * weigh (λ z. source_weight (number l.p) (left_of (g.X.FlowFaces.has_letters l.x) (number l.p) (g.X.FlowFaces.left_space l.x)) (ordered (g.X.FlowFaces.right_space l.x)) w
      (l.n, g.X.FlowFaces.left_form l.x z, g.X.FlowFaces.right_form l.x l.y)) (numbers l.faces.items))
      (weigh (form_weight (g.X.FlowFaces.left_form l.x) (g.X.FlowFaces.right_form l.x) l.n w) (numbers l.initial.into.items)
      + l.k.value * weigh (λ z. source_weight (number l.p) (left_of (g.X.FlowFaces.has_letters l.x) (number l.p) (g.X.FlowFaces.left_space l.x)) (ordered (g.X.FlowFaces.right_space l.x)) w
      (l.n, g.X.FlowFaces.left_form l.x z, g.X.FlowFaces.right_form l.x l.y)) (numbers l.initial.faces.items));
}

abbrev pub decreases-loop-z : goal.decreases-loop-z
decreases-loop-z g l = vec_len l.faces
