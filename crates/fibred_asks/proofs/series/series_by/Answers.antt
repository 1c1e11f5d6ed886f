use Rattle.std.proofs.Common.{◌≡◌, ℕ, suc, ◌+◌, ◌*◌, ◌-◌, ◌<◌, ◌≤◌, ◌^◌, [], All, sym, ◌∙◌, ap, subst, arith}
use Rattle.std.proofs.lemmas.List.Elements.{All-same}
use Rattle.fp_field.specs.Field.{number}
use Rattle.fp_field.specs.Chains.{Each}
use Rattle.chain_core.specs.Formal.{Formal, numbers}
use Rattle.cells.specs.declared.cells.Cell.{Cell}
use Rattle.ez_maps.specs.Tensors.{tensor_cmp}
use Rattle.ez_maps.specs.TensorOrder.{one_tensor}
use Rattle.tensor_red.specs.declared.tensors.Tensor.{Tensor as CodeTensor}
use Rattle.twist_chains.specs.Fibred.{room, growth}
use Rattle.oracle_iface.proofs.CarriedChains.{each-normal}
use Rattle.homology_rules.proofs.Quoted.{each-append}
use Rattle.part_asks.specs.Askers.{formal_tensors}
use Rattle.part_asks.specs.Reading.{keys_of}
use Rattle.part_asks.proofs.Reached.{asked-nothing}
use Rattle.part_asks.proofs.Readings.{found-none, found-over}
use Rattle.fibred_asks.specs.Seconds.{series_room}
use Rattle.fibred_asks.specs.Asked.{prime_of, base_of, fibre_of, values_of, IsTensorIn}
use Rattle.fibred_asks.specs.Steps.{top_of, end_of, step_asked, series_asked}
use Rattle.fibred_asks.proofs.TensorKeys.{within-wider}
use Rattle.fibred_asks.proofs.SeriesRounds.{end-same, room-start, room-now, room-fits, room-next, left-start, left-may, left-valid, left-asked, left-refused, left-through, left-next, left-none, left-all, left-found, left-so_far, minus-prime, minus-read, minus-within}
use Rattle.fibred_asks.proofs.series.series_by.Goals as goal

pub returns-in_err-term-clause-asked : goal.returns-in_err-term-clause-asked
returns-in_err-term-clause-asked g c = asked-nothing g.F.Forcer.forces (keys_of (prime_of c.args.m.now) (series_asked c.args.m.now c.args.first c.args.n c.args.c.now.terms)) c.args.forcer.now

pub loop-left-init : goal.loop-left-init
loop-left-init g c =
    let is : c.in_ok-term.term ≡ c.args.c.now = c.in_ok-term.ensures.cases (λ x y e. λ i. record { left = e.0 i; right = e.1 i }) in
    record {
      prime = ap (λ (d : Formal (CodeTensor Cell Cell)). d.prime) is ∙ c.requires.prime;
      elements = All-same (λ t. t.1.value < number (prime_of c.args.m.now)) c.new-sum.result.items [] c.new-sum.ensures.items (λ k d l. absurd (omega (arith, l)));
      stands = subst (λ l. Each (IsTensorIn c.args.m.now (series_room (values_of c.args.m.now) (top_of c.args.first c.args.n) c.args.most) c.args.n) (numbers l)) (sym c.new-sum.ensures.items) tt;
      next = λ l. subst (λ (d : Formal (CodeTensor Cell Cell)). Each (IsTensorIn c.args.m.now c.args.most c.args.n) d.terms) (sym is) c.requires.tensors;
      far = c.requires.reach;
      few = omega arith;
      fits = let e : c.args.n + 1 ≡ suc c.args.n = omega arith in subst (λ k. c.args.most + k * (((top_of c.args.first c.args.n) + 2) * growth (values_of c.args.m.now)) ≤ (series_room (values_of c.args.m.now) (top_of c.args.first c.args.n) c.args.most)) (sym e) (room-start c.args.first c.args.n c.args.most (((top_of c.args.first c.args.n) + 2) * growth (values_of c.args.m.now)));
      stage = left-start c.args.m.now c.args.first c.args.n g.F.Forcer.forces c.args.c.now.terms (numbers c.new-sum.result.items) c.in_ok-term.term.terms (c.args.n + 1) c.args.forcer.now (ap numbers c.new-sum.ensures.items) (let e : c.args.n + 1 ≡ suc c.args.n = omega arith in e) (ap (λ (d : Formal (CodeTensor Cell Cell)). d.terms) is) c.requires.valid;
    }

pub step-requires-clause-room : goal.step-requires-clause-room
step-requires-clause-room g c = room-fits c.loop-left.left c.loop-left.reach (((top_of c.args.first c.args.n) + 2) * growth (values_of c.args.m.now)) (series_room (values_of c.args.m.now) (top_of c.args.first c.args.n) c.args.most) c.loop-left-test.true c.loop-left.invariant.fits c.requires.room

pub step-requires-clause-tensors : goal.step-requires-clause-tensors
step-requires-clause-tensors g c = c.loop-left.invariant.next c.loop-left-test.true

pub step-requires-clause-valid : goal.step-requires-clause-valid
step-requires-clause-valid g c = left-valid c.loop-left.invariant.stage c.loop-left-test.true

pub step-requires-clause-asks : goal.step-requires-clause-asks
step-requires-clause-asks g c = left-may c.loop-left.invariant.stage c.loop-left-test.true g.F.Forcer.may_force c.requires.asks

pub returns-in_err-over-clause-asked : goal.returns-in_err-over-clause-asked
returns-in_err-over-clause-asked g c = left-asked c.loop-left.invariant.stage c.loop-left-test.true c.step.new.forcer c.step.ensures.asked

pub returns-in-Over-clause-asked : goal.returns-in-Over-clause-asked
returns-in-Over-clause-asked g c = left-asked c.loop-left.invariant.stage c.loop-left-test.true c.step.new.forcer c.step.ensures.asked

pub returns-in-Over-clause-through : goal.returns-in-Over-clause-through
returns-in-Over-clause-through g c = left-through c.loop-left.invariant.stage c.loop-left-test.true c.step.new.forcer c.in-Over.over (found-over (formal_tensors (prime_of c.args.m.now) (base_of c.args.m.now) (fibre_of c.args.m.now)) (prime_of c.args.m.now) (step_asked c.args.m.now c.args.first c.args.n c.loop-left.term.terms) _ c.in-Over.over c.in-Over.is c.in_ok-over.ensures.found) c.in_ok-over.ensures.through

pub returns-in-Over-clause-found : goal.returns-in-Over-clause-found
returns-in-Over-clause-found g c = left-refused c.loop-left.invariant.stage c.loop-left-test.true c.in-Over.over (found-over (formal_tensors (prime_of c.args.m.now) (base_of c.args.m.now) (fibre_of c.args.m.now)) (prime_of c.args.m.now) (step_asked c.args.m.now c.args.first c.args.n c.loop-left.term.terms) _ c.in-Over.over c.in-Over.is c.in_ok-over.ensures.found)

pub collect-requires : goal.collect-requires
collect-requires g c = record { elements = subst (λ r. All (λ t. t.1.value < number r) c.loop-left.sum.items) (sym c.loop-left.invariant.prime) c.loop-left.invariant.elements }

pub returns-in_err-collect-clause-asked : goal.returns-in_err-collect-clause-asked
returns-in_err-collect-clause-asked g c = left-asked c.loop-left.invariant.stage c.loop-left-test.true c.step.new.forcer c.step.ensures.asked

pub reach_after-reach-requires-clause-room : goal.reach_after-reach-requires-clause-room
reach_after-reach-requires-clause-room g c = subst (λ k. room (values_of c.args.m.now) k c.loop-left.reach ≤ 2 ^ 40) (sym c.top.ensures) (room-fits c.loop-left.left c.loop-left.reach (((top_of c.args.first c.args.n) + 2) * growth (values_of c.args.m.now)) (series_room (values_of c.args.m.now) (top_of c.args.first c.args.n) c.args.most) c.loop-left-test.true c.loop-left.invariant.fits c.requires.room)

pub loop-left-preserved : goal.loop-left-preserved
loop-left-preserved g c = record {
  prime = minus-prime c.args.m.now c.requires.parts c.args.first c.args.n (room (values_of c.args.m.now) (top_of c.args.first c.args.n) c.loop-left.reach) (end_of c.args.first c.args.n) c.loop-left.term.terms _ c.in-Value.next c.negated-term.result c.in-Value.is c.in_ok-over.ensures.found c.in_ok-over.ensures.back c.in_ok-over.ensures.tensors c.negated-term.ensures.prime c.negated-term.ensures.terms;
  elements = subst (λ r. All (λ t. t.1.value < number r) c.collect.new.terms.items) c.loop-left.invariant.prime c.in_ok-collect.ensures.elements;
  stands =
      subst (Each (IsTensorIn c.args.m.now (series_room (values_of c.args.m.now) (top_of c.args.first c.args.n) c.args.most) c.args.n)) (sym c.in_ok-collect.ensures.sum)
      (each-append (IsTensorIn c.args.m.now (series_room (values_of c.args.m.now) (top_of c.args.first c.args.n) c.args.most) c.args.n) (numbers c.loop-left.sum.items) c.loop-left.term.terms c.loop-left.invariant.stands
      (within-wider (base_of c.args.m.now) (fibre_of c.args.m.now) c.loop-left.reach (series_room (values_of c.args.m.now) (top_of c.args.first c.args.n) c.args.most) c.args.n (omega (arith, (room-now c.loop-left.left c.loop-left.reach (((top_of c.args.first c.args.n) + 2) * growth (values_of c.args.m.now)) (series_room (values_of c.args.m.now) (top_of c.args.first c.args.n) c.args.most) c.loop-left-test.true c.loop-left.invariant.fits))) c.loop-left.term.terms (c.loop-left.invariant.next c.loop-left-test.true)));
  next = λ l.
      subst (λ (z : ℕ × ℕ). Each (IsTensorIn c.args.m.now z.0 z.1) c.negated-term.result.terms) (λ i. (sym (c.reach_after-reach.ensures ∙ ap (λ k. room (values_of c.args.m.now) k c.loop-left.reach) c.top.ensures) i, end-same c.args.first c.args.n (c.loop-left.left - 1) l (omega (arith, c.loop-left.invariant.few)) i))
      (minus-within c.args.m.now c.requires.parts c.args.first c.args.n (room (values_of c.args.m.now) (top_of c.args.first c.args.n) c.loop-left.reach) (end_of c.args.first c.args.n) c.loop-left.term.terms _ c.in-Value.next c.negated-term.result c.in-Value.is c.in_ok-over.ensures.found c.in_ok-over.ensures.back c.in_ok-over.ensures.tensors c.negated-term.ensures.prime c.negated-term.ensures.terms);
  far = let e = (c.reach_after-reach.ensures ∙ ap (λ k. room (values_of c.args.m.now) k c.loop-left.reach) c.top.ensures) in omega (arith, e, c.loop-left.invariant.far);
  few = omega (arith, c.loop-left.invariant.few);
  fits = subst (λ k. k + (c.loop-left.left - 1) * (((top_of c.args.first c.args.n) + 2) * growth (values_of c.args.m.now)) ≤ (series_room (values_of c.args.m.now) (top_of c.args.first c.args.n) c.args.most)) (sym (c.reach_after-reach.ensures ∙ ap (λ k. room (values_of c.args.m.now) k c.loop-left.reach) c.top.ensures)) (room-next c.loop-left.left c.loop-left.reach (((top_of c.args.first c.args.n) + 2) * growth (values_of c.args.m.now)) (series_room (values_of c.args.m.now) (top_of c.args.first c.args.n) c.args.most) c.loop-left-test.true c.loop-left.invariant.fits);
  stage = left-next c.loop-left.invariant.stage c.loop-left-test.true (numbers c.collect.new.terms.items) c.negated-term.result.terms c.step.new.forcer c.in_ok-collect.ensures.sum (minus-read c.args.m.now c.requires.parts c.args.first c.args.n (room (values_of c.args.m.now) (top_of c.args.first c.args.n) c.loop-left.reach) (end_of c.args.first c.args.n) c.loop-left.term.terms _ c.in-Value.next c.negated-term.result c.in-Value.is c.in_ok-over.ensures.found c.in_ok-over.ensures.back c.in_ok-over.ensures.tensors c.negated-term.ensures.prime c.negated-term.ensures.terms) (found-none (formal_tensors (prime_of c.args.m.now) (base_of c.args.m.now) (fibre_of c.args.m.now)) (prime_of c.args.m.now) (step_asked c.args.m.now c.args.first c.args.n c.loop-left.term.terms) _ c.in-Value.next c.in-Value.is c.in_ok-over.ensures.found) c.in_ok-over.ensures.through;
}

pub from_terms-requires-clause-one_key : goal.from_terms-requires-clause-one_key
from_terms-requires-clause-one_key g c = one_tensor

pub returns-in_err-from_terms-clause-asked : goal.returns-in_err-from_terms-clause-asked
returns-in_err-from_terms-clause-asked g c = left-so_far c.loop-left.invariant.stage

pub returns-clause-asked : goal.returns-clause-asked
returns-clause-asked g c = left-so_far c.loop-left.invariant.stage

pub returns-clause-through : goal.returns-clause-through
returns-clause-through g c = left-all c.loop-left.invariant.stage (omega (arith, c.loop-left-test.false))

pub returns-clause-found : goal.returns-clause-found
returns-clause-found g c = (left-none c.loop-left.invariant.stage (omega (arith, c.loop-left-test.false)), left-found c.loop-left.invariant.stage (omega (arith, c.loop-left-test.false)) c.requires.parts.base_built c.requires.parts.fibre_built (series_room (values_of c.args.m.now) (top_of c.args.first c.args.n) c.args.most) c.loop-left.invariant.stands c.in_ok-from_terms.field-0 c.in_ok-from_terms.ensures.prime c.in_ok-from_terms.ensures.sum)

pub returns-clause-tensors : goal.returns-clause-tensors
returns-clause-tensors g c = subst (Each (IsTensorIn c.args.m.now (series_room (values_of c.args.m.now) (top_of c.args.first c.args.n) c.args.most) c.args.n)) (sym c.in_ok-from_terms.ensures.sum) (each-normal tensor_cmp (number (prime_of c.args.m.now)) (IsTensorIn c.args.m.now (series_room (values_of c.args.m.now) (top_of c.args.first c.args.n) c.args.most) c.args.n) (numbers c.loop-left.sum.items) c.loop-left.invariant.stands)
