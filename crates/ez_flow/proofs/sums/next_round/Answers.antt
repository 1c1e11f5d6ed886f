use Rattle.std.proofs.Common.{ℕ, ◌%◌, ◌<◌, cond, Some, sym, ◌∙◌, ap, subst}
use Rattle.std.proofs.lemmas.List.Elements.{All-pop}
use Rattle.fp_field.specs.Field.{number}
use Rattle.fp_field.specs.Chains.{weigh, Each}
use Rattle.fp_field.proofs.FlowLaws.{Each-normal}
use Rattle.fp_field.proofs.Normals.{weigh-normal}
use Rattle.spaces.specs.Orders.{ordered}
use Rattle.spaces.specs.EilenbergZilber.{moved as moved_by, left_over, is_source}
use Rattle.chain_core.specs.Formal.{numbers}
use Rattle.cells.specs.Order.{cell_cmp}
use Rattle.cells.proofs.OneKey.{one_cell}
use Rattle.ez_flow.specs.Parts.{left_of, IsSourceOf, form_weight}
use Rattle.ez_flow.proofs.Pushes.{each-pop, none-left, taken, all-taken}
use Rattle.ez_flow.proofs.sums.next_round.Goals as goal

pub add_round-requires-clause-source : goal.add_round-requires-clause-source
add_round-requires-clause-source g c =
    (each-pop (IsSourceOf (g.X.FlowFaces.is_left c.args.x.now) (g.X.FlowFaces.is_right c.args.x.now) c.args.n) c.loop-s.work.items c.pop.new.self.items c.in-Some.s c.in-Some.k
    c.in-Some.ensures.items c.loop-s.invariant.work_pairs).1

pub loop-s-preserved : goal.loop-s-preserved
loop-s-preserved g c =
    let x = c.args.x.now in
    let n : ℕ = c.args.n in
    let q : ℕ = number c.args.p in
    let L = left_of (g.X.FlowFaces.has_letters x) q (g.X.FlowFaces.left_space x) in
    let R = ordered (g.X.FlowFaces.right_space x) in
    let fl = g.X.FlowFaces.left_form x in
    let fr = g.X.FlowFaces.right_form x in
    let items = c.in-Some.ensures.items in
    record {
      work_elements = (All-pop (λ t. t.1.value < q) c.loop-s.work.items c.pop.new.self.items (Some (c.in-Some.s, c.in-Some.k)) items c.loop-s.invariant.work_elements).0;
      work_pairs = (each-pop (IsSourceOf (g.X.FlowFaces.is_left x) (g.X.FlowFaces.is_right x) n) c.loop-s.work.items c.pop.new.self.items c.in-Some.s c.in-Some.k items c.loop-s.invariant.work_pairs).0;
      moved_elements = c.in_ok-add_round.ensures.moved_elements;
      moved_pairs = c.in_ok-add_round.ensures.moved_pairs;
      next_elements = c.in_ok-add_round.ensures.next_elements;
      next_pairs = c.in_ok-add_round.ensures.next_pairs;
      moved = λ w. taken q (form_weight fl fr n (λ t. weigh w (moved_by q L R t))) c.loop-s.work.items c.pop.new.self.items c.in-Some.s c.in-Some.k _ _ _ items
          (c.in_ok-add_round.ensures.moved w) (c.loop-s.invariant.moved w);
      next = λ w. taken q (form_weight fl fr n (λ t. weigh (λ u. cond (is_source q L R u) (w u) 0) (left_over q L R t))) c.loop-s.work.items c.pop.new.self.items c.in-Some.s c.in-Some.k _ _ _ items
          (c.in_ok-add_round.ensures.next w) (c.loop-s.invariant.next w);
    }

pub from_terms-requires-clause-one_key : goal.from_terms-requires-clause-one_key
from_terms-requires-clause-one_key g c = one_cell

pub returns-clause-next_pairs : goal.returns-clause-next_pairs
returns-clause-next_pairs g c =
    let P = IsSourceOf (g.X.FlowFaces.is_left c.args.x.now) (g.X.FlowFaces.is_right c.args.x.now) c.args.n in
    subst (Each P) (sym (c.into_terms.ensures.terms ∙ c.in_ok-from_terms.ensures.sum))
    (Each-normal P cell_cmp (number c.args.p) (numbers c.loop-s.next.items) c.loop-s.invariant.next_pairs)

pub returns-clause-next : goal.returns-clause-next
returns-clause-next g c =
    let x = c.args.x.now in
    let n : ℕ = c.args.n in
    let q : ℕ = number c.args.p in
    let L = left_of (g.X.FlowFaces.has_letters x) q (g.X.FlowFaces.left_space x) in
    let R = ordered (g.X.FlowFaces.right_space x) in
    let fl = g.X.FlowFaces.left_form x in
    let fr = g.X.FlowFaces.right_form x in
    λ w. ap (λ t. weigh (form_weight fl fr n w) t % q) (c.into_terms.ensures.terms ∙ c.in_ok-from_terms.ensures.sum)
    ∙ weigh-normal cell_cmp q one_cell (form_weight fl fr n w) (numbers c.loop-s.next.items)
    ∙ all-taken q (form_weight fl fr n w) (form_weight fl fr n (λ t. weigh (λ u. cond (is_source q L R u) (w u) 0) (left_over q L R t))) c.new-next.result.items c.loop-s.next.items
    c.args.work.items c.loop-s.work.items c.new-next.ensures.items
    (none-left c.loop-s.work.items (λ l. c.in_default.ensures.variant.1 (subst (λ m. 0 < m) (sym c.loop-s.work.ok.0) l)))
    (c.loop-s.invariant.next w)
