use Rattle.std.proofs.Common.{ℕ, suc, ◌+◌, ◌*◌, ◌<◌, All}
use Rattle.fp_field.specs.Field.{number, SameMod}
use Rattle.fp_field.specs.Chains.{weigh, EachKey}
use Rattle.spaces.specs.Orders.{ordered}
use Rattle.spaces.specs.EilenbergZilber.{first_faces}
use Rattle.chain_core.specs.Formal.{numbers}
use Rattle.ez_flow.specs.Parts.{left_of, IsPairOf, form_weight}
use Rattle.ez_maps.proofs.PairSteps.{kept_pair}
use Rattle.ez_maps.proofs.pair_faces.push_faces.Given as goal

abbrev pub invariant-loop-i : goal.invariant-loop-i
invariant-loop-i g l = record {
  pushed : All (λ t. t.1.value < number l.p) l.into.items;
  pairs : EachKey (IsPairOf (g.X.FlowFaces.is_left l.x) (g.X.FlowFaces.is_right l.x) l.n) (numbers l.into.items);
  sum : (w : _ → ℕ) → SameMod (number l.p)
      (weigh (form_weight (g.X.FlowFaces.left_form l.x) (g.X.FlowFaces.right_form l.x) l.n w) (numbers l.into.items))
      (weigh (form_weight (g.X.FlowFaces.left_form l.x) (g.X.FlowFaces.right_form l.x) l.n w) (numbers l.initial.into.items)
      + l.k.value * weigh (kept_pair (number l.p) (left_of (g.X.FlowFaces.has_letters l.x) (number l.p) (g.X.FlowFaces.left_space l.x)) (ordered (g.X.FlowFaces.right_space l.x)) w)
      (first_faces (number l.p) (left_of (g.X.FlowFaces.has_letters l.x) (number l.p) (g.X.FlowFaces.left_space l.x)) (ordered (g.X.FlowFaces.right_space l.x)) l.i
      (suc l.n, g.X.FlowFaces.left_form l.x l.left, g.X.FlowFaces.right_form l.x l.right)));
}
