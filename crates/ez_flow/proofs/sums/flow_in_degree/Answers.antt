use Rattle.std.proofs.Common.{◌≡◌, ℕ, suc, ◌+◌, ◌-◌, ◌%◌, vec_len, length, sym, ◌∙◌, ap, subst, arith}
use Rattle.fp_field.specs.Field.{number}
use Rattle.fp_field.specs.Chains.{weigh, Each}
use Rattle.fp_field.proofs.Primes.{number_pos}
use Rattle.fp_field.proofs.FlowLaws.{Each-normal}
use Rattle.fp_field.proofs.Normals.{weigh-normal}
use Rattle.fp_field.specs.Normal.{normal}
use Rattle.chain_core.proofs.ChainLemmas.{normal_again}
use Rattle.cells.specs.Laws.{cell_total}
use Rattle.spaces.specs.Orders.{ordered}
use Rattle.chain_core.specs.Formal.{numbers}
use Rattle.cells.specs.Order.{cell_cmp}
use Rattle.cells.proofs.OneKey.{one_cell}
use Rattle.ez_flow.specs.Parts.{left_of, left_in, IsPairOf, form_weight}
use Rattle.ez_flow.proofs.FlowSums.{pulled}
use Rattle.ez_flow.proofs.FlowEnds.{pair-parts, no-flow, is-flow, round-more, rounds-done, work-done}
use Rattle.ez_flow.proofs.Bits.{eq_of}
use Rattle.ez_flow.proofs.Pushes.{none-left}
use Rattle.ez_flow.proofs.sums.flow_in_degree.Goals as goal

pub is_source-requires-clause-left : goal.is_source-requires-clause-left
is_source-requires-clause-left g c =
    let x = c.args.x.now in
    let n : ℕ = c.args.n in
    let q : ℕ = number c.args.p in
    let pos = number_pos c.args.p in
    let L = left_of (g.X.FlowFaces.has_letters x) q (g.X.FlowFaces.left_space x) in
    let I = left_in (g.X.FlowFaces.has_letters x) (g.X.FlowFaces.left_space x) in
    let R = ordered (g.X.FlowFaces.right_space x) in
    let ll = g.met.X.FlowFaces.left_identities x q pos in
    let rl = g.met.X.FlowFaces.right_identities x in
    let il = g.X.FlowFaces.is_left x in
    let fl = g.X.FlowFaces.left_form x in
    let ir = g.X.FlowFaces.is_right x in
    let fr = g.X.FlowFaces.right_form x in
    let lf = g.met.X.FlowFaces.left_forms x q in
    let rf = g.met.X.FlowFaces.right_forms x in
    let a = c.parts.result.0.now in
    let b = c.parts.result.1.now in
    let e = c.parts.ensures in
    lf.mask n a (pair-parts q (g.X.FlowFaces.bound x) L I R ll rl il fl ir fr lf rf n c.args.c.now a b e c.requires.pair).0

pub returns-then-not-is_source-clause-flow : goal.returns-then-not-is_source-clause-flow
returns-then-not-is_source-clause-flow g c =
    let x = c.args.x.now in
    let n : ℕ = c.args.n in
    let q : ℕ = number c.args.p in
    let pos = number_pos c.args.p in
    let L = left_of (g.X.FlowFaces.has_letters x) q (g.X.FlowFaces.left_space x) in
    let I = left_in (g.X.FlowFaces.has_letters x) (g.X.FlowFaces.left_space x) in
    let R = ordered (g.X.FlowFaces.right_space x) in
    let ll = g.met.X.FlowFaces.left_identities x q pos in
    let rl = g.met.X.FlowFaces.right_identities x in
    let il = g.X.FlowFaces.is_left x in
    let fl = g.X.FlowFaces.left_form x in
    let ir = g.X.FlowFaces.is_right x in
    let fr = g.X.FlowFaces.right_form x in
    let lf = g.met.X.FlowFaces.left_forms x q in
    let rf = g.met.X.FlowFaces.right_forms x in
    let a = c.parts.result.0.now in
    let b = c.parts.result.1.now in
    let e = c.parts.ensures in
    λ w. ap (λ t. weigh (form_weight fl fr (suc n) w) t % q) c.new.ensures.zero
    ∙ ap (λ t. t % q) (sym (no-flow q (g.X.FlowFaces.bound x) L I R ll rl il fl ir fr lf rf n c.args.c.now a b e c.requires.pair w (sym c.is_source.ensures ∙ c.if-not-is_source.true)))

pub from_terms-requires-clause-one_key : goal.from_terms-requires-clause-one_key
from_terms-requires-clause-one_key g c = one_cell

pub from_terms-requires-2-clause-one_key : goal.from_terms-requires-2-clause-one_key
from_terms-requires-2-clause-one_key g c = one_cell

pub returns-then-is_empty-clause-pairs : goal.returns-then-is_empty-clause-pairs
returns-then-is_empty-clause-pairs g c =
    let x = c.args.x.now in
    let n : ℕ = c.args.n in
    let q : ℕ = number c.args.p in
    let pos = number_pos c.args.p in
    let L = left_of (g.X.FlowFaces.has_letters x) q (g.X.FlowFaces.left_space x) in
    let I = left_in (g.X.FlowFaces.has_letters x) (g.X.FlowFaces.left_space x) in
    let R = ordered (g.X.FlowFaces.right_space x) in
    let ll = g.met.X.FlowFaces.left_identities x q pos in
    let rl = g.met.X.FlowFaces.right_identities x in
    let il = g.X.FlowFaces.is_left x in
    let fl = g.X.FlowFaces.left_form x in
    let ir = g.X.FlowFaces.is_right x in
    let fr = g.X.FlowFaces.right_form x in
    let lf = g.met.X.FlowFaces.left_forms x q in
    let rf = g.met.X.FlowFaces.right_forms x in
    let a = c.parts.result.0.now in
    let b = c.parts.result.1.now in
    let e = c.parts.ensures in
    let P = IsPairOf il ir (suc n) in
    subst (Each P) (sym c.in_ok-early.ensures.sum) (Each-normal P cell_cmp q (numbers c.loop-round.moved.items) c.loop-round.invariant.moved_pairs)

pub returns-clause-pairs : goal.returns-clause-pairs
returns-clause-pairs g c =
    let x = c.args.x.now in
    let n : ℕ = c.args.n in
    let q : ℕ = number c.args.p in
    let pos = number_pos c.args.p in
    let L = left_of (g.X.FlowFaces.has_letters x) q (g.X.FlowFaces.left_space x) in
    let I = left_in (g.X.FlowFaces.has_letters x) (g.X.FlowFaces.left_space x) in
    let R = ordered (g.X.FlowFaces.right_space x) in
    let ll = g.met.X.FlowFaces.left_identities x q pos in
    let rl = g.met.X.FlowFaces.right_identities x in
    let il = g.X.FlowFaces.is_left x in
    let fl = g.X.FlowFaces.left_form x in
    let ir = g.X.FlowFaces.is_right x in
    let fr = g.X.FlowFaces.right_form x in
    let lf = g.met.X.FlowFaces.left_forms x q in
    let rf = g.met.X.FlowFaces.right_forms x in
    let a = c.parts.result.0.now in
    let b = c.parts.result.1.now in
    let e = c.parts.ensures in
    let P = IsPairOf il ir (suc n) in
    subst (Each P) (sym c.in_ok-flow.ensures.sum) (Each-normal P cell_cmp q (numbers c.loop-round.moved.items) c.loop-round.invariant.moved_pairs)

pub returns-then-is_empty-clause-flow : goal.returns-then-is_empty-clause-flow
returns-then-is_empty-clause-flow g c =
    let x = c.args.x.now in
    let n : ℕ = c.args.n in
    let q : ℕ = number c.args.p in
    let pos = number_pos c.args.p in
    let L = left_of (g.X.FlowFaces.has_letters x) q (g.X.FlowFaces.left_space x) in
    let I = left_in (g.X.FlowFaces.has_letters x) (g.X.FlowFaces.left_space x) in
    let R = ordered (g.X.FlowFaces.right_space x) in
    let ll = g.met.X.FlowFaces.left_identities x q pos in
    let rl = g.met.X.FlowFaces.right_identities x in
    let il = g.X.FlowFaces.is_left x in
    let fl = g.X.FlowFaces.left_form x in
    let ir = g.X.FlowFaces.is_right x in
    let fr = g.X.FlowFaces.right_form x in
    let lf = g.met.X.FlowFaces.left_forms x q in
    let rf = g.met.X.FlowFaces.right_forms x in
    let a = c.parts.result.0.now in
    let b = c.parts.result.1.now in
    let e = c.parts.ensures in
    λ w. is-flow q (g.X.FlowFaces.bound x) L I R ll rl il fl ir fr lf rf n c.args.c.now a b e c.requires.pair w c.rounds-round-end.result (weigh (form_weight fl fr (suc n) w) c.in_ok-early.early.terms)
    (sym c.is_source.ensures ∙ c.if-not-is_source.false) c.rounds-round-end.ensures
    (ap (λ t. weigh (form_weight fl fr (suc n) w) t % q) c.in_ok-early.ensures.sum
    ∙ (weigh-normal cell_cmp q one_cell (form_weight fl fr (suc n) w) (numbers c.loop-round.moved.items)
    ∙ work-done fl fr n q (pulled q L R (c.rounds-round-end.result - c.loop-round._round) w) (weigh (form_weight fl fr (suc n) w) (numbers c.loop-round.moved.items)) (form_weight fl fr n (pulled q L R c.rounds-round-end.result w) c.args.c.now) c.loop-round.work.items (none-left c.loop-round.work.items (λ l. absurd (let z : vec_len c.loop-round.work ≡ 0 = eq_of (vec_len c.loop-round.work) 0 (sym c.if-is_empty.ensures) in let o : vec_len c.loop-round.work ≡ length c.loop-round.work.items = c.loop-round.work.ok.0 in omega (arith, l, z, o)))) (c.loop-round.invariant.sum w)))

pub returns-clause-flow : goal.returns-clause-flow
returns-clause-flow g c =
    let x = c.args.x.now in
    let n : ℕ = c.args.n in
    let q : ℕ = number c.args.p in
    let pos = number_pos c.args.p in
    let L = left_of (g.X.FlowFaces.has_letters x) q (g.X.FlowFaces.left_space x) in
    let I = left_in (g.X.FlowFaces.has_letters x) (g.X.FlowFaces.left_space x) in
    let R = ordered (g.X.FlowFaces.right_space x) in
    let ll = g.met.X.FlowFaces.left_identities x q pos in
    let rl = g.met.X.FlowFaces.right_identities x in
    let il = g.X.FlowFaces.is_left x in
    let fl = g.X.FlowFaces.left_form x in
    let ir = g.X.FlowFaces.is_right x in
    let fr = g.X.FlowFaces.right_form x in
    let lf = g.met.X.FlowFaces.left_forms x q in
    let rf = g.met.X.FlowFaces.right_forms x in
    let a = c.parts.result.0.now in
    let b = c.parts.result.1.now in
    let e = c.parts.ensures in
    λ w. is-flow q (g.X.FlowFaces.bound x) L I R ll rl il fl ir fr lf rf n c.args.c.now a b e c.requires.pair w c.rounds-round-end.result (weigh (form_weight fl fr (suc n) w) c.in_ok-flow.flow.terms)
    (sym c.is_source.ensures ∙ c.if-not-is_source.false) c.rounds-round-end.ensures
    (ap (λ t. weigh (form_weight fl fr (suc n) w) t % q) c.in_ok-flow.ensures.sum
    ∙ (weigh-normal cell_cmp q one_cell (form_weight fl fr (suc n) w) (numbers c.loop-round.moved.items)
    ∙ rounds-done fl fr n q L R w (c.rounds-round-end.result - c.loop-round._round) (weigh (form_weight fl fr (suc n) w) (numbers c.loop-round.moved.items)) (form_weight fl fr n (pulled q L R c.rounds-round-end.result w) c.args.c.now) (numbers c.loop-round.work.items) (let l = c.loop-round-test.false in omega (arith, l)) (c.loop-round.invariant.sum w)))

pub loop-round-preserved : goal.loop-round-preserved
loop-round-preserved g c =
    let x = c.args.x.now in
    let n : ℕ = c.args.n in
    let q : ℕ = number c.args.p in
    let pos = number_pos c.args.p in
    let L = left_of (g.X.FlowFaces.has_letters x) q (g.X.FlowFaces.left_space x) in
    let I = left_in (g.X.FlowFaces.has_letters x) (g.X.FlowFaces.left_space x) in
    let R = ordered (g.X.FlowFaces.right_space x) in
    let ll = g.met.X.FlowFaces.left_identities x q pos in
    let rl = g.met.X.FlowFaces.right_identities x in
    let il = g.X.FlowFaces.is_left x in
    let fl = g.X.FlowFaces.left_form x in
    let ir = g.X.FlowFaces.is_right x in
    let fr = g.X.FlowFaces.right_form x in
    let lf = g.met.X.FlowFaces.left_forms x q in
    let rf = g.met.X.FlowFaces.right_forms x in
    let a = c.parts.result.0.now in
    let b = c.parts.result.1.now in
    let e = c.parts.ensures in
    record {
      moved_elements = c.in_ok-work.ensures.moved_elements;
      moved_pairs = c.in_ok-work.ensures.moved_pairs;
      work_elements = c.in_ok-work.ensures.next_elements;
      work_pairs = c.in_ok-work.ensures.next_pairs;
      sum = λ w. round-more fl fr n q L R w c.loop-round._round c.rounds-round-end.result (weigh (form_weight fl fr (suc n) w) (numbers c.loop-round.moved.items))
          (weigh (form_weight fl fr (suc n) w) (numbers c.next_round.new.moved.items)) (form_weight fl fr n (pulled q L R c.rounds-round-end.result w) c.args.c.now)
          (numbers c.loop-round.work.items) (numbers c.in_ok-work.work.items) c.loop-round-test.true
          (c.in_ok-work.ensures.moved w) (c.in_ok-work.ensures.next (pulled q L R (c.rounds-round-end.result - (c.loop-round._round + 1)) w)) (c.loop-round.invariant.sum w);
    }

pub returns-then-not-is_source-clause-normal : goal.returns-then-not-is_source-clause-normal
returns-then-not-is_source-clause-normal g c = ap (normal cell_cmp (number c.args.p)) c.new.ensures.zero ∙ sym c.new.ensures.zero

pub returns-then-is_empty-clause-normal : goal.returns-then-is_empty-clause-normal
returns-then-is_empty-clause-normal g c = normal_again cell_cmp cell_total c.args.p c.in_ok-early.early.terms (numbers c.loop-round.moved.items) c.in_ok-early.ensures.sum

pub returns-clause-normal : goal.returns-clause-normal
returns-clause-normal g c = normal_again cell_cmp cell_total c.args.p c.in_ok-flow.flow.terms (numbers c.loop-round.moved.items) c.in_ok-flow.ensures.sum
