use Rattle.std.proofs.Common.{ℕ, suc, ◌+◌, ◌<◌, cond, All, vec_len}
use Rattle.fp_field.specs.Field.{number, SameMod}
use Rattle.fp_field.specs.Chains.{weigh, EachKey}
use Rattle.spaces.specs.Orders.{ordered}
use Rattle.spaces.specs.EilenbergZilber.{moved as moved_by, left_over, is_source}
use Rattle.chain_core.specs.Formal.{numbers}
use Rattle.ez_flow.specs.Parts.{left_of, IsPairOf, IsSourceOf, form_weight}
use Rattle.ez_flow.proofs.sums.next_round.Given as goal

abbrev pub invariant-loop-s : goal.invariant-loop-s
invariant-loop-s g l = record {
  work_elements : All (λ t. t.1.value < number l.p) l.work.items;
  work_pairs : EachKey (IsSourceOf (g.X.FlowFaces.is_left l.x) (g.X.FlowFaces.is_right l.x) l.n) (numbers l.work.items);
  moved_elements : All (λ t. t.1.value < number l.p) l.moved.items;
  moved_pairs : EachKey (IsPairOf (g.X.FlowFaces.is_left l.x) (g.X.FlowFaces.is_right l.x) (suc l.n)) (numbers l.moved.items);
  next_elements : All (λ t. t.1.value < number l.p) l.next.items;
  next_pairs : EachKey (IsSourceOf (g.X.FlowFaces.is_left l.x) (g.X.FlowFaces.is_right l.x) l.n) (numbers l.next.items);
  moved : (w : _ → ℕ) → SameMod (number l.p)
      (weigh (form_weight (g.X.FlowFaces.left_form l.x) (g.X.FlowFaces.right_form l.x) (suc l.n) w) (numbers l.moved.items)
      + weigh (form_weight (g.X.FlowFaces.left_form l.x) (g.X.FlowFaces.right_form l.x) l.n
      (λ t. weigh w (moved_by (number l.p) (left_of (g.X.FlowFaces.has_letters l.x) (number l.p) (g.X.FlowFaces.left_space l.x)) (ordered (g.X.FlowFaces.right_space l.x)) t))) (numbers l.work.items))
      (weigh (form_weight (g.X.FlowFaces.left_form l.x) (g.X.FlowFaces.right_form l.x) (suc l.n) w) (numbers l.initial.moved.items)
      + weigh (form_weight (g.X.FlowFaces.left_form l.x) (g.X.FlowFaces.right_form l.x) l.n
      (λ t. weigh w (moved_by (number l.p) (left_of (g.X.FlowFaces.has_letters l.x) (number l.p) (g.X.FlowFaces.left_space l.x)) (ordered (g.X.FlowFaces.right_space l.x)) t))) (numbers l.initial.work.items));
  next : (w : _ → ℕ) → SameMod (number l.p)
      (weigh (form_weight (g.X.FlowFaces.left_form l.x) (g.X.FlowFaces.right_form l.x) l.n w) (numbers l.next.items)
      + weigh (form_weight (g.X.FlowFaces.left_form l.x) (g.X.FlowFaces.right_form l.x) l.n
      (λ t. weigh (λ u. cond (is_source (number l.p) (left_of (g.X.FlowFaces.has_letters l.x) (number l.p) (g.X.FlowFaces.left_space l.x)) (ordered (g.X.FlowFaces.right_space l.x)) u) (w u) 0)
      (left_over (number l.p) (left_of (g.X.FlowFaces.has_letters l.x) (number l.p) (g.X.FlowFaces.left_space l.x)) (ordered (g.X.FlowFaces.right_space l.x)) t))) (numbers l.work.items))
      (weigh (form_weight (g.X.FlowFaces.left_form l.x) (g.X.FlowFaces.right_form l.x) l.n w) (numbers l.initial.next.items)
      + weigh (form_weight (g.X.FlowFaces.left_form l.x) (g.X.FlowFaces.right_form l.x) l.n
      (λ t. weigh (λ u. cond (is_source (number l.p) (left_of (g.X.FlowFaces.has_letters l.x) (number l.p) (g.X.FlowFaces.left_space l.x)) (ordered (g.X.FlowFaces.right_space l.x)) u) (w u) 0)
      (left_over (number l.p) (left_of (g.X.FlowFaces.has_letters l.x) (number l.p) (g.X.FlowFaces.left_space l.x)) (ordered (g.X.FlowFaces.right_space l.x)) t))) (numbers l.initial.work.items));
}

abbrev pub decreases-loop-s : goal.decreases-loop-s
decreases-loop-s g l = vec_len l.work
