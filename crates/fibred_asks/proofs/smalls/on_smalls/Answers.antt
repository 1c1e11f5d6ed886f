use Rattle.std.proofs.Common.{◌<◌, [], All, drop, sym, ◌∙◌, ap, subst, arith}
use Rattle.std.proofs.lemmas.List.{at_drop_all}
use Rattle.std.proofs.lemmas.List.Elements.{All-same}
use Rattle.fp_field.specs.Chains.{Each}
use Rattle.fp_field.specs.Field.{number}
use Rattle.fp_field.specs.declared.element.Fp.{Fp}
use Rattle.cells.specs.declared.cells.Cell.{Cell}
use Rattle.cells.specs.declared.cells.SmallCell.{SmallCell}
use Rattle.cells.proofs.OneSmall.{one_small}
use Rattle.chain_core.specs.Formal.{Formal, numbers}
use Rattle.tensor_red.specs.declared.tensors.Tensor.{Tensor}
use Rattle.oracle_iface.specs.Keys.{formal, quote_small_chain}
use Rattle.part_asks.specs.OneKey.{f_at}
use Rattle.part_asks.proofs.Readings.{found-none, found-value, found-over}
use Rattle.part_asks.proofs.RightStages.{asked-next, may-next, refused-through, refused-whole, stage-asked}
use Rattle.fibred_asks.specs.Asked.{prime_of, base_of, fibre_of, IsTensorIn, f_asked}
use Rattle.fibred_asks.proofs.AlongChains.{left-each}
use Rattle.fibred_asks.proofs.AlongSmalls.{after_left, after_right, left-next, right-next, smalls-begun, smalls-more, smalls-none, smalls-through, smalls-found}
use Rattle.fibred_asks.proofs.KeptCells.{own-bare}
use Rattle.fibred_asks.proofs.smalls.on_smalls.Goals as goal

pub loop-x-init : goal.loop-x-init
loop-x-init g c = record {
  elements = All-same (λ t. t.1.value < number (prime_of c.args.m.now)) c.new-terms.result.items [] c.new-terms.ensures.items (λ k d l. absurd (omega (arith, l)));
  kinds = subst (Each (IsTensorIn c.args.m.now c.args.most c.args.n)) (sym c.terms-x-items.ensures.terms) c.requires.tensors;
  state = smalls-begun c.args.m.now g.F.Forcer.forces c.args.c.now.terms (numbers c.terms-x-items.result.now) (numbers c.new-terms.result.items) c.args.forcer.now c.terms-x-items.ensures.terms (ap numbers c.new-terms.ensures.items) c.requires.valid;
}

pub part_f-requires-clause-cell : goal.part_f-requires-clause-cell
part_f-requires-clause-cell g c =
    own-bare (base_of c.args.m.now) c.requires.parts.base_built c.args.most c.loop-x-item.result.0.left (left-each c.terms-x-items.result.now c.loop-x.x-index c.loop-x-item.result c.loop-x-test.true c.loop-x-item.is (IsTensorIn c.args.m.now c.args.most c.args.n) c.loop-x.invariant.kinds).0.0

pub part_f-requires-clause-asks : goal.part_f-requires-clause-asks
part_f-requires-clause-asks g c =
    may-next g.F.Forcer.forces (prime_of c.args.m.now) (f_asked c.args.m.now c.args.c.now.terms) (f_at (base_of c.args.m.now) c.loop-x-item.result.0.left) (after_left c.args.m.now g.F.Forcer.forces c.args.c.now.terms c.terms-x-items.result.now c.loop-x.x-index c.loop-x-item.result c.loop-x-test.true c.loop-x-item.is c.args.forcer.now c.loop-x.forcer (numbers c.loop-x.terms.items) c.loop-x.invariant.state) c.args.forcer.now c.loop-x.forcer (left-next c.args.m.now g.F.Forcer.forces c.args.c.now.terms c.terms-x-items.result.now c.loop-x.x-index c.loop-x-item.result c.loop-x-test.true c.loop-x-item.is c.args.forcer.now c.loop-x.forcer (numbers c.loop-x.terms.items) c.loop-x.invariant.state) g.F.Forcer.may_force c.requires.asks

pub returns-in_err-over-clause-asked : goal.returns-in_err-over-clause-asked
returns-in_err-over-clause-asked g c =
    asked-next g.F.Forcer.forces (prime_of c.args.m.now) (f_asked c.args.m.now c.args.c.now.terms) (f_at (base_of c.args.m.now) c.loop-x-item.result.0.left) (after_left c.args.m.now g.F.Forcer.forces c.args.c.now.terms c.terms-x-items.result.now c.loop-x.x-index c.loop-x-item.result c.loop-x-test.true c.loop-x-item.is c.args.forcer.now c.loop-x.forcer (numbers c.loop-x.terms.items) c.loop-x.invariant.state) c.args.forcer.now c.loop-x.forcer (left-next c.args.m.now g.F.Forcer.forces c.args.c.now.terms c.terms-x-items.result.now c.loop-x.x-index c.loop-x-item.result c.loop-x-test.true c.loop-x-item.is c.args.forcer.now c.loop-x.forcer (numbers c.loop-x.terms.items) c.loop-x.invariant.state) c.part_f.new.forcer c.part_f.ensures.asked

pub returns-in-Over-clause-asked : goal.returns-in-Over-clause-asked
returns-in-Over-clause-asked g c =
    asked-next g.F.Forcer.forces (prime_of c.args.m.now) (f_asked c.args.m.now c.args.c.now.terms) (f_at (base_of c.args.m.now) c.loop-x-item.result.0.left) (after_left c.args.m.now g.F.Forcer.forces c.args.c.now.terms c.terms-x-items.result.now c.loop-x.x-index c.loop-x-item.result c.loop-x-test.true c.loop-x-item.is c.args.forcer.now c.loop-x.forcer (numbers c.loop-x.terms.items) c.loop-x.invariant.state) c.args.forcer.now c.loop-x.forcer (left-next c.args.m.now g.F.Forcer.forces c.args.c.now.terms c.terms-x-items.result.now c.loop-x.x-index c.loop-x-item.result c.loop-x-test.true c.loop-x-item.is c.args.forcer.now c.loop-x.forcer (numbers c.loop-x.terms.items) c.loop-x.invariant.state) c.part_f.new.forcer c.part_f.ensures.asked

pub returns-in-Over-clause-through : goal.returns-in-Over-clause-through
returns-in-Over-clause-through g c =
    refused-through g.F.Forcer.forces (prime_of c.args.m.now) (f_asked c.args.m.now c.args.c.now.terms) (f_at (base_of c.args.m.now) c.loop-x-item.result.0.left) (after_left c.args.m.now g.F.Forcer.forces c.args.c.now.terms c.terms-x-items.result.now c.loop-x.x-index c.loop-x-item.result c.loop-x-test.true c.loop-x-item.is c.args.forcer.now c.loop-x.forcer (numbers c.loop-x.terms.items) c.loop-x.invariant.state) c.args.forcer.now c.loop-x.forcer (left-next c.args.m.now g.F.Forcer.forces c.args.c.now.terms c.terms-x-items.result.now c.loop-x.x-index c.loop-x-item.result c.loop-x-test.true c.loop-x-item.is c.args.forcer.now c.loop-x.forcer (numbers c.loop-x.terms.items) c.loop-x.invariant.state) c.part_f.new.forcer c.in-Over.over (found-over (λ z. formal (prime_of c.args.m.now) (quote_small_chain (base_of c.args.m.now) z)) (prime_of c.args.m.now) (f_at (base_of c.args.m.now) c.loop-x-item.result.0.left) _ c.in-Over.over c.in-Over.is c.in_ok-over.ensures.found) c.in_ok-over.ensures.through

pub returns-in-Over-clause-found : goal.returns-in-Over-clause-found
returns-in-Over-clause-found g c =
    refused-whole g.F.Forcer.forces (prime_of c.args.m.now) (f_asked c.args.m.now c.args.c.now.terms) (f_at (base_of c.args.m.now) c.loop-x-item.result.0.left) (after_left c.args.m.now g.F.Forcer.forces c.args.c.now.terms c.terms-x-items.result.now c.loop-x.x-index c.loop-x-item.result c.loop-x-test.true c.loop-x-item.is c.args.forcer.now c.loop-x.forcer (numbers c.loop-x.terms.items) c.loop-x.invariant.state) c.args.forcer.now c.loop-x.forcer (left-next c.args.m.now g.F.Forcer.forces c.args.c.now.terms c.terms-x-items.result.now c.loop-x.x-index c.loop-x-item.result c.loop-x-test.true c.loop-x-item.is c.args.forcer.now c.loop-x.forcer (numbers c.loop-x.terms.items) c.loop-x.invariant.state) c.in-Over.over (found-over (λ z. formal (prime_of c.args.m.now) (quote_small_chain (base_of c.args.m.now) z)) (prime_of c.args.m.now) (f_at (base_of c.args.m.now) c.loop-x-item.result.0.left) _ c.in-Over.over c.in-Over.is c.in_ok-over.ensures.found)

pub part_f-requires-in-loop-x-clause-cell : goal.part_f-requires-in-loop-x-clause-cell
part_f-requires-in-loop-x-clause-cell g c =
    own-bare (fibre_of c.args.m.now) c.requires.parts.fibre_built c.args.most c.loop-x-item.result.0.right (left-each c.terms-x-items.result.now c.loop-x.x-index c.loop-x-item.result c.loop-x-test.true c.loop-x-item.is (IsTensorIn c.args.m.now c.args.most c.args.n) c.loop-x.invariant.kinds).0.1

pub part_f-requires-in-loop-x-clause-asks : goal.part_f-requires-in-loop-x-clause-asks
part_f-requires-in-loop-x-clause-asks g c =
    may-next g.F.Forcer.forces (prime_of c.args.m.now) (f_asked c.args.m.now c.args.c.now.terms) (f_at (fibre_of c.args.m.now) c.loop-x-item.result.0.right) (after_right c.args.m.now g.F.Forcer.forces c.args.c.now.terms c.terms-x-items.result.now c.loop-x.x-index c.loop-x-item.result c.loop-x-test.true c.loop-x-item.is c.args.forcer.now c.loop-x.forcer (numbers c.loop-x.terms.items) c.loop-x.invariant.state) c.args.forcer.now c.part_f.new.forcer (right-next c.args.m.now g.F.Forcer.forces c.args.c.now.terms c.terms-x-items.result.now c.loop-x.x-index c.loop-x-item.result c.loop-x-test.true c.loop-x-item.is c.args.forcer.now c.loop-x.forcer (numbers c.loop-x.terms.items) c.loop-x.invariant.state c.part_f.new.forcer (found-none (λ z. formal (prime_of c.args.m.now) (quote_small_chain (base_of c.args.m.now) z)) (prime_of c.args.m.now) (f_at (base_of c.args.m.now) c.loop-x-item.result.0.left) _ c.in-Value.left c.in-Value.is c.in_ok-over.ensures.found) c.in_ok-over.ensures.through) g.F.Forcer.may_force c.requires.asks

pub returns-in_err-over-2-clause-asked : goal.returns-in_err-over-2-clause-asked
returns-in_err-over-2-clause-asked g c =
    asked-next g.F.Forcer.forces (prime_of c.args.m.now) (f_asked c.args.m.now c.args.c.now.terms) (f_at (fibre_of c.args.m.now) c.loop-x-item.result.0.right) (after_right c.args.m.now g.F.Forcer.forces c.args.c.now.terms c.terms-x-items.result.now c.loop-x.x-index c.loop-x-item.result c.loop-x-test.true c.loop-x-item.is c.args.forcer.now c.loop-x.forcer (numbers c.loop-x.terms.items) c.loop-x.invariant.state) c.args.forcer.now c.part_f.new.forcer (right-next c.args.m.now g.F.Forcer.forces c.args.c.now.terms c.terms-x-items.result.now c.loop-x.x-index c.loop-x-item.result c.loop-x-test.true c.loop-x-item.is c.args.forcer.now c.loop-x.forcer (numbers c.loop-x.terms.items) c.loop-x.invariant.state c.part_f.new.forcer (found-none (λ z. formal (prime_of c.args.m.now) (quote_small_chain (base_of c.args.m.now) z)) (prime_of c.args.m.now) (f_at (base_of c.args.m.now) c.loop-x-item.result.0.left) _ c.in-Value.left c.in-Value.is c.in_ok-over.ensures.found) c.in_ok-over.ensures.through) c.part_f-in-loop-x.new.forcer c.part_f-in-loop-x.ensures.asked

pub returns-in-Over-2-clause-asked : goal.returns-in-Over-2-clause-asked
returns-in-Over-2-clause-asked g c =
    asked-next g.F.Forcer.forces (prime_of c.args.m.now) (f_asked c.args.m.now c.args.c.now.terms) (f_at (fibre_of c.args.m.now) c.loop-x-item.result.0.right) (after_right c.args.m.now g.F.Forcer.forces c.args.c.now.terms c.terms-x-items.result.now c.loop-x.x-index c.loop-x-item.result c.loop-x-test.true c.loop-x-item.is c.args.forcer.now c.loop-x.forcer (numbers c.loop-x.terms.items) c.loop-x.invariant.state) c.args.forcer.now c.part_f.new.forcer (right-next c.args.m.now g.F.Forcer.forces c.args.c.now.terms c.terms-x-items.result.now c.loop-x.x-index c.loop-x-item.result c.loop-x-test.true c.loop-x-item.is c.args.forcer.now c.loop-x.forcer (numbers c.loop-x.terms.items) c.loop-x.invariant.state c.part_f.new.forcer (found-none (λ z. formal (prime_of c.args.m.now) (quote_small_chain (base_of c.args.m.now) z)) (prime_of c.args.m.now) (f_at (base_of c.args.m.now) c.loop-x-item.result.0.left) _ c.in-Value.left c.in-Value.is c.in_ok-over.ensures.found) c.in_ok-over.ensures.through) c.part_f-in-loop-x.new.forcer c.part_f-in-loop-x.ensures.asked

pub returns-in-Over-2-clause-through : goal.returns-in-Over-2-clause-through
returns-in-Over-2-clause-through g c =
    refused-through g.F.Forcer.forces (prime_of c.args.m.now) (f_asked c.args.m.now c.args.c.now.terms) (f_at (fibre_of c.args.m.now) c.loop-x-item.result.0.right) (after_right c.args.m.now g.F.Forcer.forces c.args.c.now.terms c.terms-x-items.result.now c.loop-x.x-index c.loop-x-item.result c.loop-x-test.true c.loop-x-item.is c.args.forcer.now c.loop-x.forcer (numbers c.loop-x.terms.items) c.loop-x.invariant.state) c.args.forcer.now c.part_f.new.forcer (right-next c.args.m.now g.F.Forcer.forces c.args.c.now.terms c.terms-x-items.result.now c.loop-x.x-index c.loop-x-item.result c.loop-x-test.true c.loop-x-item.is c.args.forcer.now c.loop-x.forcer (numbers c.loop-x.terms.items) c.loop-x.invariant.state c.part_f.new.forcer (found-none (λ z. formal (prime_of c.args.m.now) (quote_small_chain (base_of c.args.m.now) z)) (prime_of c.args.m.now) (f_at (base_of c.args.m.now) c.loop-x-item.result.0.left) _ c.in-Value.left c.in-Value.is c.in_ok-over.ensures.found) c.in_ok-over.ensures.through) c.part_f-in-loop-x.new.forcer c.in-Over-2.over (found-over (λ z. formal (prime_of c.args.m.now) (quote_small_chain (fibre_of c.args.m.now) z)) (prime_of c.args.m.now) (f_at (fibre_of c.args.m.now) c.loop-x-item.result.0.right) _ c.in-Over-2.over c.in-Over-2.is c.in_ok-over-2.ensures.found) c.in_ok-over-2.ensures.through

pub returns-in-Over-2-clause-found : goal.returns-in-Over-2-clause-found
returns-in-Over-2-clause-found g c =
    refused-whole g.F.Forcer.forces (prime_of c.args.m.now) (f_asked c.args.m.now c.args.c.now.terms) (f_at (fibre_of c.args.m.now) c.loop-x-item.result.0.right) (after_right c.args.m.now g.F.Forcer.forces c.args.c.now.terms c.terms-x-items.result.now c.loop-x.x-index c.loop-x-item.result c.loop-x-test.true c.loop-x-item.is c.args.forcer.now c.loop-x.forcer (numbers c.loop-x.terms.items) c.loop-x.invariant.state) c.args.forcer.now c.part_f.new.forcer (right-next c.args.m.now g.F.Forcer.forces c.args.c.now.terms c.terms-x-items.result.now c.loop-x.x-index c.loop-x-item.result c.loop-x-test.true c.loop-x-item.is c.args.forcer.now c.loop-x.forcer (numbers c.loop-x.terms.items) c.loop-x.invariant.state c.part_f.new.forcer (found-none (λ z. formal (prime_of c.args.m.now) (quote_small_chain (base_of c.args.m.now) z)) (prime_of c.args.m.now) (f_at (base_of c.args.m.now) c.loop-x-item.result.0.left) _ c.in-Value.left c.in-Value.is c.in_ok-over.ensures.found) c.in_ok-over.ensures.through) c.in-Over-2.over (found-over (λ z. formal (prime_of c.args.m.now) (quote_small_chain (fibre_of c.args.m.now) z)) (prime_of c.args.m.now) (f_at (fibre_of c.args.m.now) c.loop-x-item.result.0.right) _ c.in-Over-2.over c.in-Over-2.is c.in_ok-over-2.ensures.found)

pub push_products-requires-clause-prime : goal.push_products-requires-clause-prime
push_products-requires-clause-prime g c =
    (ap (λ (z : Formal SmallCell). z.prime) (found-value (λ z. formal (prime_of c.args.m.now) (quote_small_chain (fibre_of c.args.m.now) z)) (prime_of c.args.m.now) (f_at (fibre_of c.args.m.now) c.loop-x-item.result.0.right) _ c.in-Value-2.right c.in-Value-2.is c.in_ok-over-2.ensures.found)) ∙ sym (ap (λ (z : Formal SmallCell). z.prime) (found-value (λ z. formal (prime_of c.args.m.now) (quote_small_chain (base_of c.args.m.now) z)) (prime_of c.args.m.now) (f_at (base_of c.args.m.now) c.loop-x-item.result.0.left) _ c.in-Value.left c.in-Value.is c.in_ok-over.ensures.found))

pub push_products-requires-clause-element : goal.push_products-requires-clause-element
push_products-requires-clause-element g c =
    subst (λ q. c.loop-x-item.result.1.value < number q) (c.requires.prime ∙ sym (ap (λ (z : Formal SmallCell). z.prime) (found-value (λ z. formal (prime_of c.args.m.now) (quote_small_chain (base_of c.args.m.now) z)) (prime_of c.args.m.now) (f_at (base_of c.args.m.now) c.loop-x-item.result.0.left) _ c.in-Value.left c.in-Value.is c.in_ok-over.ensures.found)))
    (subst (λ (t : Tensor Cell Cell × Fp). t.1.value < number c.args.c.now.prime) (sym c.loop-x-item.is) (c.terms-x-items.ensures.elements c.loop-x.x-index c.loop-x-item.result c.loop-x-test.true))

pub push_products-requires-clause-elements : goal.push_products-requires-clause-elements
push_products-requires-clause-elements g c =
    subst (λ q. All (λ t. t.1.value < number q) c.loop-x.terms.items) (sym (ap (λ (z : Formal SmallCell). z.prime) (found-value (λ z. formal (prime_of c.args.m.now) (quote_small_chain (base_of c.args.m.now) z)) (prime_of c.args.m.now) (f_at (base_of c.args.m.now) c.loop-x-item.result.0.left) _ c.in-Value.left c.in-Value.is c.in_ok-over.ensures.found))) c.loop-x.invariant.elements

pub returns-in_err-push_products-clause-asked : goal.returns-in_err-push_products-clause-asked
returns-in_err-push_products-clause-asked g c =
    asked-next g.F.Forcer.forces (prime_of c.args.m.now) (f_asked c.args.m.now c.args.c.now.terms) (f_at (fibre_of c.args.m.now) c.loop-x-item.result.0.right) (after_right c.args.m.now g.F.Forcer.forces c.args.c.now.terms c.terms-x-items.result.now c.loop-x.x-index c.loop-x-item.result c.loop-x-test.true c.loop-x-item.is c.args.forcer.now c.loop-x.forcer (numbers c.loop-x.terms.items) c.loop-x.invariant.state) c.args.forcer.now c.part_f.new.forcer (right-next c.args.m.now g.F.Forcer.forces c.args.c.now.terms c.terms-x-items.result.now c.loop-x.x-index c.loop-x-item.result c.loop-x-test.true c.loop-x-item.is c.args.forcer.now c.loop-x.forcer (numbers c.loop-x.terms.items) c.loop-x.invariant.state c.part_f.new.forcer (found-none (λ z. formal (prime_of c.args.m.now) (quote_small_chain (base_of c.args.m.now) z)) (prime_of c.args.m.now) (f_at (base_of c.args.m.now) c.loop-x-item.result.0.left) _ c.in-Value.left c.in-Value.is c.in_ok-over.ensures.found) c.in_ok-over.ensures.through) c.part_f-in-loop-x.new.forcer c.part_f-in-loop-x.ensures.asked

pub loop-x-preserved : goal.loop-x-preserved
loop-x-preserved g c = record {
  elements = subst (λ q. All (λ t. t.1.value < number q) c.push_products.new.terms.items) (ap (λ (z : Formal SmallCell). z.prime) (found-value (λ z. formal (prime_of c.args.m.now) (quote_small_chain (base_of c.args.m.now) z)) (prime_of c.args.m.now) (f_at (base_of c.args.m.now) c.loop-x-item.result.0.left) _ c.in-Value.left c.in-Value.is c.in_ok-over.ensures.found)) c.in_ok-push_products.ensures.elements;
  kinds = (left-each c.terms-x-items.result.now c.loop-x.x-index c.loop-x-item.result c.loop-x-test.true c.loop-x-item.is (IsTensorIn c.args.m.now c.args.most c.args.n) c.loop-x.invariant.kinds).1;
  state = smalls-more c.args.m.now g.F.Forcer.forces c.args.c.now.terms c.terms-x-items.result.now c.loop-x.x-index c.loop-x-item.result c.loop-x-test.true c.loop-x-item.is c.args.forcer.now c.loop-x.forcer (numbers c.loop-x.terms.items) c.loop-x.invariant.state c.part_f.new.forcer (found-none (λ z. formal (prime_of c.args.m.now) (quote_small_chain (base_of c.args.m.now) z)) (prime_of c.args.m.now) (f_at (base_of c.args.m.now) c.loop-x-item.result.0.left) _ c.in-Value.left c.in-Value.is c.in_ok-over.ensures.found) c.in_ok-over.ensures.through c.requires.parts c.part_f-in-loop-x.new.forcer (found-none (λ z. formal (prime_of c.args.m.now) (quote_small_chain (fibre_of c.args.m.now) z)) (prime_of c.args.m.now) (f_at (fibre_of c.args.m.now) c.loop-x-item.result.0.right) _ c.in-Value-2.right c.in-Value-2.is c.in_ok-over-2.ensures.found) c.in_ok-over-2.ensures.through c.in-Value.left c.in-Value-2.right (found-value (λ z. formal (prime_of c.args.m.now) (quote_small_chain (base_of c.args.m.now) z)) (prime_of c.args.m.now) (f_at (base_of c.args.m.now) c.loop-x-item.result.0.left) _ c.in-Value.left c.in-Value.is c.in_ok-over.ensures.found) (found-value (λ z. formal (prime_of c.args.m.now) (quote_small_chain (fibre_of c.args.m.now) z)) (prime_of c.args.m.now) (f_at (fibre_of c.args.m.now) c.loop-x-item.result.0.right) _ c.in-Value-2.right c.in-Value-2.is c.in_ok-over-2.ensures.found) (numbers c.push_products.new.terms.items) c.in_ok-push_products.ensures.sum;
}

pub from_terms-requires-clause-elements : goal.from_terms-requires-clause-elements
from_terms-requires-clause-elements g c =
    c.loop-x.invariant.elements

pub from_terms-requires-clause-one_key : goal.from_terms-requires-clause-one_key
from_terms-requires-clause-one_key g c =
    one_small

pub returns-in_err-from_terms-clause-asked : goal.returns-in_err-from_terms-clause-asked
returns-in_err-from_terms-clause-asked g c =
    stage-asked g.F.Forcer.forces (prime_of c.args.m.now) (f_asked c.args.m.now c.args.c.now.terms) _ c.args.forcer.now c.loop-x.forcer c.loop-x.invariant.state.stage

pub returns-clause-asked : goal.returns-clause-asked
returns-clause-asked g c =
    stage-asked g.F.Forcer.forces (prime_of c.args.m.now) (f_asked c.args.m.now c.args.c.now.terms) _ c.args.forcer.now c.loop-x.forcer c.loop-x.invariant.state.stage

pub returns-clause-through : goal.returns-clause-through
returns-clause-through g c =
    smalls-through c.args.m.now g.F.Forcer.forces c.args.c.now.terms (numbers (drop c.loop-x.x-index c.terms-x-items.result.now)) c.args.forcer.now c.loop-x.forcer (numbers c.loop-x.terms.items) (at_drop_all numbers c.terms-x-items.result.now c.loop-x.x-index c.loop-x-test.false) c.loop-x.invariant.state

pub returns-clause-found : goal.returns-clause-found
returns-clause-found g c =
    (smalls-none c.args.m.now g.F.Forcer.forces c.args.c.now.terms (numbers (drop c.loop-x.x-index c.terms-x-items.result.now)) c.args.forcer.now c.loop-x.forcer (numbers c.loop-x.terms.items) (at_drop_all numbers c.terms-x-items.result.now c.loop-x.x-index c.loop-x-test.false) c.loop-x.invariant.state, smalls-found c.args.m.now g.F.Forcer.forces c.args.c.now.terms (numbers (drop c.loop-x.x-index c.terms-x-items.result.now)) c.args.forcer.now c.loop-x.forcer (numbers c.loop-x.terms.items) (at_drop_all numbers c.terms-x-items.result.now c.loop-x.x-index c.loop-x-test.false) c.loop-x.invariant.state c.in_ok-from_terms.field-0 c.in_ok-from_terms.ensures.prime c.in_ok-from_terms.ensures.sum)
