use Rattle.std.proofs.Common.{ℕ, suc, ◌+◌, ◌-◌, ◌<◌, All}
use Rattle.fp_field.specs.Field.{number, SameMod}
use Rattle.fp_field.specs.Chains.{weigh, EachKey}
use Rattle.spaces.specs.Orders.{ordered}
use Rattle.chain_core.specs.Formal.{numbers}
use Rattle.ez_flow.specs.Parts.{left_of, IsPairOf, IsSourceOf, form_weight}
use Rattle.ez_flow.proofs.FlowSums.{pulled}
use Rattle.ez_flow.proofs.sums.flow_in_degree.Given as goal

abbrev pub invariant-loop-round : goal.invariant-loop-round
invariant-loop-round g l = record {
  moved_elements : All (λ t. t.1.value < number l.p) l.moved.items;
  moved_pairs : EachKey (IsPairOf (g.X.FlowFaces.is_left l.x) (g.X.FlowFaces.is_right l.x) (suc l.n)) (numbers l.moved.items);
  work_elements : All (λ t. t.1.value < number l.p) l.work.items;
  work_pairs : EachKey (IsSourceOf (g.X.FlowFaces.is_left l.x) (g.X.FlowFaces.is_right l.x) l.n) (numbers l.work.items);
  sum : (w : _ → ℕ) → SameMod (number l.p)
      (weigh (form_weight (g.X.FlowFaces.left_form l.x) (g.X.FlowFaces.right_form l.x) (suc l.n) w) (numbers l.moved.items)
      + weigh (form_weight (g.X.FlowFaces.left_form l.x) (g.X.FlowFaces.right_form l.x) l.n
      (pulled (number l.p) (left_of (g.X.FlowFaces.has_letters l.x) (number l.p) (g.X.FlowFaces.left_space l.x)) (ordered (g.X.FlowFaces.right_space l.x)) (l._round-end - l._round) w)) (numbers l.work.items))
      (form_weight (g.X.FlowFaces.left_form l.x) (g.X.FlowFaces.right_form l.x) l.n
      (pulled (number l.p) (left_of (g.X.FlowFaces.has_letters l.x) (number l.p) (g.X.FlowFaces.left_space l.x)) (ordered (g.X.FlowFaces.right_space l.x)) l._round-end w) l.c);
}
