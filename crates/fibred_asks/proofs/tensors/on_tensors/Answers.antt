use Rattle.std.proofs.Common.{◌<◌, [], All, drop, sym, ◌∙◌, ap, subst, arith}
use Rattle.std.proofs.lemmas.List.{at_drop_all}
use Rattle.std.proofs.lemmas.List.Elements.{All-same}
use Rattle.fp_field.specs.Chains.{Each}
use Rattle.fp_field.specs.Field.{number}
use Rattle.fp_field.specs.declared.element.Fp.{Fp}
use Rattle.cells.specs.declared.cells.Cell.{Cell}
use Rattle.chain_core.specs.Formal.{Formal, numbers}
use Rattle.tensor_red.specs.declared.tensors.Tensor.{Tensor}
use Rattle.ez_maps.specs.TensorOrder.{one_tensor}
use Rattle.part_asks.specs.Askers.{t_tensor, normal_tensors}
use Rattle.part_asks.proofs.Readings.{found-none, found-value, found-over}
use Rattle.part_asks.proofs.RightStages.{asked-next, may-next, refused-through, refused-whole, stage-asked, valid-next}
use Rattle.fibred_asks.specs.Asked.{prime_of, base_of, fibre_of, IsTensorIn, h_asked}
use Rattle.fibred_asks.proofs.AlongChains.{left-each}
use Rattle.fibred_asks.proofs.AlongTensors.{then_left, tensor-next, tensor-more, tensors-begun, tensors-none, tensors-through, tensors-found, tensors-kinds}
use Rattle.fibred_asks.proofs.KeptCells.{own-bare}
use Rattle.fibred_asks.proofs.tensors.on_tensors.Goals as goal

pub loop-x-init : goal.loop-x-init
loop-x-init g c = record {
  elements = All-same (λ t. t.1.value < number (prime_of c.args.m.now)) c.new-terms.result.items [] c.new-terms.ensures.items (λ k d l. absurd (omega (arith, l)));
  kinds = subst (Each (IsTensorIn c.args.m.now c.args.most c.args.n)) (sym c.terms-x-items.ensures.terms) c.requires.tensors;
  state = tensors-begun c.args.m.now c.args.most c.args.n g.F.Forcer.forces c.args.c.now.terms (numbers c.terms-x-items.result.now) (numbers c.new-terms.result.items) c.args.forcer.now c.terms-x-items.ensures.terms (ap numbers c.new-terms.ensures.items) c.requires.valid;
}

pub tensor_t-requires-clause-left_cell : goal.tensor_t-requires-clause-left_cell
tensor_t-requires-clause-left_cell g c =
    own-bare (base_of c.args.m.now) c.requires.parts.base_built c.args.most c.loop-x-item.result.0.left (left-each c.terms-x-items.result.now c.loop-x.x-index c.loop-x-item.result c.loop-x-test.true c.loop-x-item.is (IsTensorIn c.args.m.now c.args.most c.args.n) c.loop-x.invariant.kinds).0.0

pub tensor_t-requires-clause-right_cell : goal.tensor_t-requires-clause-right_cell
tensor_t-requires-clause-right_cell g c =
    own-bare (fibre_of c.args.m.now) c.requires.parts.fibre_built c.args.most c.loop-x-item.result.0.right (left-each c.terms-x-items.result.now c.loop-x.x-index c.loop-x-item.result c.loop-x-test.true c.loop-x-item.is (IsTensorIn c.args.m.now c.args.most c.args.n) c.loop-x.invariant.kinds).0.1

pub tensor_t-requires-clause-valid : goal.tensor_t-requires-clause-valid
tensor_t-requires-clause-valid g c =
    valid-next g.F.Forcer.forces (prime_of c.args.m.now) (h_asked c.args.m.now c.args.c.now.terms) (t_tensor (prime_of c.args.m.now) (base_of c.args.m.now) (fibre_of c.args.m.now) c.loop-x-item.result.0) (then_left c.args.m.now c.args.most c.args.n g.F.Forcer.forces c.args.c.now.terms c.terms-x-items.result.now c.loop-x.x-index c.loop-x-item.result c.loop-x-test.true c.loop-x-item.is c.args.forcer.now c.loop-x.forcer (numbers c.loop-x.terms.items) c.loop-x.invariant.state) c.args.forcer.now c.loop-x.forcer (tensor-next c.args.m.now c.args.most c.args.n g.F.Forcer.forces c.args.c.now.terms c.terms-x-items.result.now c.loop-x.x-index c.loop-x-item.result c.loop-x-test.true c.loop-x-item.is c.args.forcer.now c.loop-x.forcer (numbers c.loop-x.terms.items) c.loop-x.invariant.state)

pub tensor_t-requires-clause-asks : goal.tensor_t-requires-clause-asks
tensor_t-requires-clause-asks g c =
    may-next g.F.Forcer.forces (prime_of c.args.m.now) (h_asked c.args.m.now c.args.c.now.terms) (t_tensor (prime_of c.args.m.now) (base_of c.args.m.now) (fibre_of c.args.m.now) c.loop-x-item.result.0) (then_left c.args.m.now c.args.most c.args.n g.F.Forcer.forces c.args.c.now.terms c.terms-x-items.result.now c.loop-x.x-index c.loop-x-item.result c.loop-x-test.true c.loop-x-item.is c.args.forcer.now c.loop-x.forcer (numbers c.loop-x.terms.items) c.loop-x.invariant.state) c.args.forcer.now c.loop-x.forcer (tensor-next c.args.m.now c.args.most c.args.n g.F.Forcer.forces c.args.c.now.terms c.terms-x-items.result.now c.loop-x.x-index c.loop-x-item.result c.loop-x-test.true c.loop-x-item.is c.args.forcer.now c.loop-x.forcer (numbers c.loop-x.terms.items) c.loop-x.invariant.state) g.F.Forcer.may_force c.requires.asks

pub returns-in_err-over-clause-asked : goal.returns-in_err-over-clause-asked
returns-in_err-over-clause-asked g c =
    asked-next g.F.Forcer.forces (prime_of c.args.m.now) (h_asked c.args.m.now c.args.c.now.terms) (t_tensor (prime_of c.args.m.now) (base_of c.args.m.now) (fibre_of c.args.m.now) c.loop-x-item.result.0) (then_left c.args.m.now c.args.most c.args.n g.F.Forcer.forces c.args.c.now.terms c.terms-x-items.result.now c.loop-x.x-index c.loop-x-item.result c.loop-x-test.true c.loop-x-item.is c.args.forcer.now c.loop-x.forcer (numbers c.loop-x.terms.items) c.loop-x.invariant.state) c.args.forcer.now c.loop-x.forcer (tensor-next c.args.m.now c.args.most c.args.n g.F.Forcer.forces c.args.c.now.terms c.terms-x-items.result.now c.loop-x.x-index c.loop-x-item.result c.loop-x-test.true c.loop-x-item.is c.args.forcer.now c.loop-x.forcer (numbers c.loop-x.terms.items) c.loop-x.invariant.state) c.tensor_t.new.forcer c.tensor_t.ensures.asked

pub returns-in-Over-clause-asked : goal.returns-in-Over-clause-asked
returns-in-Over-clause-asked g c =
    asked-next g.F.Forcer.forces (prime_of c.args.m.now) (h_asked c.args.m.now c.args.c.now.terms) (t_tensor (prime_of c.args.m.now) (base_of c.args.m.now) (fibre_of c.args.m.now) c.loop-x-item.result.0) (then_left c.args.m.now c.args.most c.args.n g.F.Forcer.forces c.args.c.now.terms c.terms-x-items.result.now c.loop-x.x-index c.loop-x-item.result c.loop-x-test.true c.loop-x-item.is c.args.forcer.now c.loop-x.forcer (numbers c.loop-x.terms.items) c.loop-x.invariant.state) c.args.forcer.now c.loop-x.forcer (tensor-next c.args.m.now c.args.most c.args.n g.F.Forcer.forces c.args.c.now.terms c.terms-x-items.result.now c.loop-x.x-index c.loop-x-item.result c.loop-x-test.true c.loop-x-item.is c.args.forcer.now c.loop-x.forcer (numbers c.loop-x.terms.items) c.loop-x.invariant.state) c.tensor_t.new.forcer c.tensor_t.ensures.asked

pub returns-in-Over-clause-through : goal.returns-in-Over-clause-through
returns-in-Over-clause-through g c =
    refused-through g.F.Forcer.forces (prime_of c.args.m.now) (h_asked c.args.m.now c.args.c.now.terms) (t_tensor (prime_of c.args.m.now) (base_of c.args.m.now) (fibre_of c.args.m.now) c.loop-x-item.result.0) (then_left c.args.m.now c.args.most c.args.n g.F.Forcer.forces c.args.c.now.terms c.terms-x-items.result.now c.loop-x.x-index c.loop-x-item.result c.loop-x-test.true c.loop-x-item.is c.args.forcer.now c.loop-x.forcer (numbers c.loop-x.terms.items) c.loop-x.invariant.state) c.args.forcer.now c.loop-x.forcer (tensor-next c.args.m.now c.args.most c.args.n g.F.Forcer.forces c.args.c.now.terms c.terms-x-items.result.now c.loop-x.x-index c.loop-x-item.result c.loop-x-test.true c.loop-x-item.is c.args.forcer.now c.loop-x.forcer (numbers c.loop-x.terms.items) c.loop-x.invariant.state) c.tensor_t.new.forcer c.in-Over.over (found-over (normal_tensors (prime_of c.args.m.now) (base_of c.args.m.now) (fibre_of c.args.m.now)) (prime_of c.args.m.now) (t_tensor (prime_of c.args.m.now) (base_of c.args.m.now) (fibre_of c.args.m.now) c.loop-x-item.result.0) _ c.in-Over.over c.in-Over.is c.in_ok-over.ensures.found) c.in_ok-over.ensures.through

pub returns-in-Over-clause-found : goal.returns-in-Over-clause-found
returns-in-Over-clause-found g c =
    refused-whole g.F.Forcer.forces (prime_of c.args.m.now) (h_asked c.args.m.now c.args.c.now.terms) (t_tensor (prime_of c.args.m.now) (base_of c.args.m.now) (fibre_of c.args.m.now) c.loop-x-item.result.0) (then_left c.args.m.now c.args.most c.args.n g.F.Forcer.forces c.args.c.now.terms c.terms-x-items.result.now c.loop-x.x-index c.loop-x-item.result c.loop-x-test.true c.loop-x-item.is c.args.forcer.now c.loop-x.forcer (numbers c.loop-x.terms.items) c.loop-x.invariant.state) c.args.forcer.now c.loop-x.forcer (tensor-next c.args.m.now c.args.most c.args.n g.F.Forcer.forces c.args.c.now.terms c.terms-x-items.result.now c.loop-x.x-index c.loop-x-item.result c.loop-x-test.true c.loop-x-item.is c.args.forcer.now c.loop-x.forcer (numbers c.loop-x.terms.items) c.loop-x.invariant.state) c.in-Over.over (found-over (normal_tensors (prime_of c.args.m.now) (base_of c.args.m.now) (fibre_of c.args.m.now)) (prime_of c.args.m.now) (t_tensor (prime_of c.args.m.now) (base_of c.args.m.now) (fibre_of c.args.m.now) c.loop-x-item.result.0) _ c.in-Over.over c.in-Over.is c.in_ok-over.ensures.found)

pub push_scaled-requires-clause-element : goal.push_scaled-requires-clause-element
push_scaled-requires-clause-element g c =
    subst (λ q. c.loop-x-item.result.1.value < number q) (c.requires.prime ∙ sym (ap (λ (z : Formal (Tensor Cell Cell)). z.prime) (found-value (normal_tensors (prime_of c.args.m.now) (base_of c.args.m.now) (fibre_of c.args.m.now)) (prime_of c.args.m.now) (t_tensor (prime_of c.args.m.now) (base_of c.args.m.now) (fibre_of c.args.m.now) c.loop-x-item.result.0) _ c.in-Value.image c.in-Value.is c.in_ok-over.ensures.found)))
    (subst (λ (t : Tensor Cell Cell × Fp). t.1.value < number c.args.c.now.prime) (sym c.loop-x-item.is) (c.terms-x-items.ensures.elements c.loop-x.x-index c.loop-x-item.result c.loop-x-test.true))

pub push_scaled-requires-clause-elements : goal.push_scaled-requires-clause-elements
push_scaled-requires-clause-elements g c =
    subst (λ q. All (λ t. t.1.value < number q) c.loop-x.terms.items) (sym (ap (λ (z : Formal (Tensor Cell Cell)). z.prime) (found-value (normal_tensors (prime_of c.args.m.now) (base_of c.args.m.now) (fibre_of c.args.m.now)) (prime_of c.args.m.now) (t_tensor (prime_of c.args.m.now) (base_of c.args.m.now) (fibre_of c.args.m.now) c.loop-x-item.result.0) _ c.in-Value.image c.in-Value.is c.in_ok-over.ensures.found))) c.loop-x.invariant.elements

pub returns-in_err-push_scaled-in-Value-clause-asked : goal.returns-in_err-push_scaled-in-Value-clause-asked
returns-in_err-push_scaled-in-Value-clause-asked g c =
    asked-next g.F.Forcer.forces (prime_of c.args.m.now) (h_asked c.args.m.now c.args.c.now.terms) (t_tensor (prime_of c.args.m.now) (base_of c.args.m.now) (fibre_of c.args.m.now) c.loop-x-item.result.0) (then_left c.args.m.now c.args.most c.args.n g.F.Forcer.forces c.args.c.now.terms c.terms-x-items.result.now c.loop-x.x-index c.loop-x-item.result c.loop-x-test.true c.loop-x-item.is c.args.forcer.now c.loop-x.forcer (numbers c.loop-x.terms.items) c.loop-x.invariant.state) c.args.forcer.now c.loop-x.forcer (tensor-next c.args.m.now c.args.most c.args.n g.F.Forcer.forces c.args.c.now.terms c.terms-x-items.result.now c.loop-x.x-index c.loop-x-item.result c.loop-x-test.true c.loop-x-item.is c.args.forcer.now c.loop-x.forcer (numbers c.loop-x.terms.items) c.loop-x.invariant.state) c.tensor_t.new.forcer c.tensor_t.ensures.asked

pub loop-x-preserved : goal.loop-x-preserved
loop-x-preserved g c = record {
  elements = subst (λ q. All (λ t. t.1.value < number q) c.push_scaled.new.sum.items) (ap (λ (z : Formal (Tensor Cell Cell)). z.prime) (found-value (normal_tensors (prime_of c.args.m.now) (base_of c.args.m.now) (fibre_of c.args.m.now)) (prime_of c.args.m.now) (t_tensor (prime_of c.args.m.now) (base_of c.args.m.now) (fibre_of c.args.m.now) c.loop-x-item.result.0) _ c.in-Value.image c.in-Value.is c.in_ok-over.ensures.found)) c.in_ok-push_scaled-in-Value.ensures.elements;
  kinds = (left-each c.terms-x-items.result.now c.loop-x.x-index c.loop-x-item.result c.loop-x-test.true c.loop-x-item.is (IsTensorIn c.args.m.now c.args.most c.args.n) c.loop-x.invariant.kinds).1;
  state = tensor-more c.args.m.now c.args.most c.args.n g.F.Forcer.forces c.args.c.now.terms c.terms-x-items.result.now c.loop-x.x-index c.loop-x-item.result c.loop-x-test.true c.loop-x-item.is c.args.forcer.now c.loop-x.forcer (numbers c.loop-x.terms.items) c.loop-x.invariant.state c.requires.parts c.requires.reach (left-each c.terms-x-items.result.now c.loop-x.x-index c.loop-x-item.result c.loop-x-test.true c.loop-x-item.is (IsTensorIn c.args.m.now c.args.most c.args.n) c.loop-x.invariant.kinds).0 c.tensor_t.new.forcer (found-none (normal_tensors (prime_of c.args.m.now) (base_of c.args.m.now) (fibre_of c.args.m.now)) (prime_of c.args.m.now) (t_tensor (prime_of c.args.m.now) (base_of c.args.m.now) (fibre_of c.args.m.now) c.loop-x-item.result.0) _ c.in-Value.image c.in-Value.is c.in_ok-over.ensures.found) c.in_ok-over.ensures.through c.in-Value.image (found-value (normal_tensors (prime_of c.args.m.now) (base_of c.args.m.now) (fibre_of c.args.m.now)) (prime_of c.args.m.now) (t_tensor (prime_of c.args.m.now) (base_of c.args.m.now) (fibre_of c.args.m.now) c.loop-x-item.result.0) _ c.in-Value.image c.in-Value.is c.in_ok-over.ensures.found) (numbers c.push_scaled.new.sum.items) c.in_ok-push_scaled-in-Value.ensures.sum;
}

pub from_terms-requires-clause-elements : goal.from_terms-requires-clause-elements
from_terms-requires-clause-elements g c =
    c.loop-x.invariant.elements

pub from_terms-requires-clause-one_key : goal.from_terms-requires-clause-one_key
from_terms-requires-clause-one_key g c =
    one_tensor

pub returns-in_err-from_terms-clause-asked : goal.returns-in_err-from_terms-clause-asked
returns-in_err-from_terms-clause-asked g c =
    stage-asked g.F.Forcer.forces (prime_of c.args.m.now) (h_asked c.args.m.now c.args.c.now.terms) _ c.args.forcer.now c.loop-x.forcer c.loop-x.invariant.state.stage

pub returns-clause-asked : goal.returns-clause-asked
returns-clause-asked g c =
    stage-asked g.F.Forcer.forces (prime_of c.args.m.now) (h_asked c.args.m.now c.args.c.now.terms) _ c.args.forcer.now c.loop-x.forcer c.loop-x.invariant.state.stage

pub returns-clause-through : goal.returns-clause-through
returns-clause-through g c =
    tensors-through c.args.m.now c.args.most c.args.n g.F.Forcer.forces c.args.c.now.terms (numbers (drop c.loop-x.x-index c.terms-x-items.result.now)) c.args.forcer.now c.loop-x.forcer (numbers c.loop-x.terms.items) (at_drop_all numbers c.terms-x-items.result.now c.loop-x.x-index c.loop-x-test.false) c.loop-x.invariant.state

pub returns-clause-found : goal.returns-clause-found
returns-clause-found g c =
    (tensors-none c.args.m.now c.args.most c.args.n g.F.Forcer.forces c.args.c.now.terms (numbers (drop c.loop-x.x-index c.terms-x-items.result.now)) c.args.forcer.now c.loop-x.forcer (numbers c.loop-x.terms.items) (at_drop_all numbers c.terms-x-items.result.now c.loop-x.x-index c.loop-x-test.false) c.loop-x.invariant.state, tensors-found c.args.m.now c.args.most c.args.n g.F.Forcer.forces c.args.c.now.terms (numbers (drop c.loop-x.x-index c.terms-x-items.result.now)) c.args.forcer.now c.loop-x.forcer (numbers c.loop-x.terms.items) (at_drop_all numbers c.terms-x-items.result.now c.loop-x.x-index c.loop-x-test.false) c.loop-x.invariant.state c.requires.parts c.in_ok-from_terms.field-0 c.in_ok-from_terms.ensures.prime c.in_ok-from_terms.ensures.sum)

pub returns-clause-tensors : goal.returns-clause-tensors
returns-clause-tensors g c =
    tensors-kinds c.args.m.now c.args.most c.args.n g.F.Forcer.forces c.args.c.now.terms (numbers (drop c.loop-x.x-index c.terms-x-items.result.now)) c.args.forcer.now c.loop-x.forcer (numbers c.loop-x.terms.items) (at_drop_all numbers c.terms-x-items.result.now c.loop-x.x-index c.loop-x-test.false) c.loop-x.invariant.state c.requires.parts c.in_ok-from_terms.field-0 c.in_ok-from_terms.ensures.prime c.in_ok-from_terms.ensures.sum
