use Rattle.std.proofs.Common.{ℕ, suc, ◌+◌, ◌≤◌, sym, ap, subst}
use Rattle.fp_field.specs.Chains.{Each}
use Rattle.chain_core.specs.Formal.{Formal}
use Rattle.cells.specs.declared.cells.Cell.{Cell}
use Rattle.tensor_red.specs.declared.tensors.Tensor.{Tensor}
use Rattle.twist_chains.specs.Fibred.{read_tensors, room}
use Rattle.part_asks.specs.Askers.{formal_tensors}
use Rattle.part_asks.proofs.Readings.{found-none, found-value, found-over}
use Rattle.fibred_asks.specs.Parts.{EachIn}
use Rattle.fibred_asks.specs.Asked.{prime_of, base_of, fibre_of, values_of, IsTensorIn, h_asked}
use Rattle.fibred_asks.proofs.SeriesSteps.{next_is, less_is, if_found, second-may, second-valid, second-asked, second-refused, second-stopped, second-none, second-through, second-found, second-back}
use Rattle.fibred_asks.proofs.steps.difference_of_homotopy.Goals as goal

pub on_tensors-requires-clause-valid : goal.on_tensors-requires-clause-valid
on_tensors-requires-clause-valid g c = second-valid c.args.m.now g.F.Forcer.forces c.args.n (read_tensors (base_of c.args.m.now) (fibre_of c.args.m.now) c.args.c.now.terms) c.args.forcer.now c.requires.valid

pub on_tensors-requires-clause-asks : goal.on_tensors-requires-clause-asks
on_tensors-requires-clause-asks g c = second-may c.args.m.now g.F.Forcer.forces c.args.n (read_tensors (base_of c.args.m.now) (fibre_of c.args.m.now) c.args.c.now.terms) c.args.forcer.now c.requires.valid g.F.Forcer.may_force c.requires.asks

pub returns-in_err-over-clause-asked : goal.returns-in_err-over-clause-asked
returns-in_err-over-clause-asked g c = second-asked c.args.m.now g.F.Forcer.forces c.args.n (read_tensors (base_of c.args.m.now) (fibre_of c.args.m.now) c.args.c.now.terms) c.args.forcer.now c.requires.valid c.on_tensors.new.forcer c.on_tensors.ensures.asked

pub returns-in-Over-clause-asked : goal.returns-in-Over-clause-asked
returns-in-Over-clause-asked g c = second-asked c.args.m.now g.F.Forcer.forces c.args.n (read_tensors (base_of c.args.m.now) (fibre_of c.args.m.now) c.args.c.now.terms) c.args.forcer.now c.requires.valid c.on_tensors.new.forcer c.on_tensors.ensures.asked

pub returns-in-Over-clause-through : goal.returns-in-Over-clause-through
returns-in-Over-clause-through g c = second-stopped c.args.m.now g.F.Forcer.forces c.args.n (read_tensors (base_of c.args.m.now) (fibre_of c.args.m.now) c.args.c.now.terms) c.args.forcer.now c.requires.valid c.on_tensors.new.forcer c.in-Over.over (found-over (formal_tensors (prime_of c.args.m.now) (base_of c.args.m.now) (fibre_of c.args.m.now)) (prime_of c.args.m.now) (h_asked c.args.m.now c.args.c.now.terms) _ c.in-Over.over c.in-Over.is c.in_ok-over.ensures.found) c.in_ok-over.ensures.through

pub returns-in-Over-clause-found : goal.returns-in-Over-clause-found
returns-in-Over-clause-found g c = second-refused c.args.m.now g.F.Forcer.forces c.args.n (read_tensors (base_of c.args.m.now) (fibre_of c.args.m.now) c.args.c.now.terms) c.args.forcer.now c.requires.valid c.in-Over.over (found-over (formal_tensors (prime_of c.args.m.now) (base_of c.args.m.now) (fibre_of c.args.m.now)) (prime_of c.args.m.now) (h_asked c.args.m.now c.args.c.now.terms) _ c.in-Over.over c.in-Over.is c.in_ok-over.ensures.found)

pub difference_in-requires-clause-prime : goal.difference_in-requires-clause-prime
difference_in-requires-clause-prime g c = ap (λ (x : Formal (Tensor Cell Cell)). x.prime) (found-value (formal_tensors (prime_of c.args.m.now) (base_of c.args.m.now) (fibre_of c.args.m.now)) (prime_of c.args.m.now) (h_asked c.args.m.now c.args.c.now.terms) _ c.in-Value.raised c.in-Value.is c.in_ok-over.ensures.found)

pub difference_in-requires-clause-tensors : goal.difference_in-requires-clause-tensors
difference_in-requires-clause-tensors g c = (subst (λ k. Each (IsTensorIn c.args.m.now c.args.most k) c.in-Value.raised.terms) (sym (next_is c.args.n)) (if_found (EachIn (IsTensorIn c.args.m.now c.args.most (suc c.args.n))) _ c.in-Value.raised c.in-Value.is c.in_ok-over.ensures.tensors))

pub returns-in_err-difference_in-clause-asked : goal.returns-in_err-difference_in-clause-asked
returns-in_err-difference_in-clause-asked g c = second-asked c.args.m.now g.F.Forcer.forces c.args.n (read_tensors (base_of c.args.m.now) (fibre_of c.args.m.now) c.args.c.now.terms) c.args.forcer.now c.requires.valid c.on_tensors.new.forcer c.on_tensors.ensures.asked

pub returns-clause-asked : goal.returns-clause-asked
returns-clause-asked g c = second-asked c.args.m.now g.F.Forcer.forces c.args.n (read_tensors (base_of c.args.m.now) (fibre_of c.args.m.now) c.args.c.now.terms) c.args.forcer.now c.requires.valid c.on_tensors.new.forcer c.on_tensors.ensures.asked

pub returns-clause-through : goal.returns-clause-through
returns-clause-through g c = second-through c.args.m.now g.F.Forcer.forces c.args.n (read_tensors (base_of c.args.m.now) (fibre_of c.args.m.now) c.args.c.now.terms) c.args.forcer.now c.requires.valid c.on_tensors.new.forcer (found-none (formal_tensors (prime_of c.args.m.now) (base_of c.args.m.now) (fibre_of c.args.m.now)) (prime_of c.args.m.now) (h_asked c.args.m.now c.args.c.now.terms) _ c.in-Value.raised c.in-Value.is c.in_ok-over.ensures.found) c.in_ok-over.ensures.through

pub returns-clause-found : goal.returns-clause-found
returns-clause-found g c = (second-none c.args.m.now g.F.Forcer.forces c.args.n (read_tensors (base_of c.args.m.now) (fibre_of c.args.m.now) c.args.c.now.terms) c.args.forcer.now c.requires.valid c.on_tensors.new.forcer (found-none (formal_tensors (prime_of c.args.m.now) (base_of c.args.m.now) (fibre_of c.args.m.now)) (prime_of c.args.m.now) (h_asked c.args.m.now c.args.c.now.terms) _ c.in-Value.raised c.in-Value.is c.in_ok-over.ensures.found) c.in_ok-over.ensures.through, second-found c.args.m.now c.requires.parts c.args.n c.args.c.now.terms (second-valid c.args.m.now g.F.Forcer.forces c.args.n (read_tensors (base_of c.args.m.now) (fibre_of c.args.m.now) c.args.c.now.terms) c.args.forcer.now c.requires.valid) c.in-Value.raised (found-value (formal_tensors (prime_of c.args.m.now) (base_of c.args.m.now) (fibre_of c.args.m.now)) (prime_of c.args.m.now) (h_asked c.args.m.now c.args.c.now.terms) _ c.in-Value.raised c.in-Value.is c.in_ok-over.ensures.found) (c.args.n + 1) (next_is c.args.n) c.in_ok-difference_in.field-0 c.in_ok-difference_in.ensures.terms c.in_ok-difference_in.ensures.prime)

pub returns-clause-back : goal.returns-clause-back
returns-clause-back g c = second-back c.args.m.now c.requires.parts c.args.n c.args.c.now.terms (second-valid c.args.m.now g.F.Forcer.forces c.args.n (read_tensors (base_of c.args.m.now) (fibre_of c.args.m.now) c.args.c.now.terms) c.args.forcer.now c.requires.valid) c.in-Value.raised (found-value (formal_tensors (prime_of c.args.m.now) (base_of c.args.m.now) (fibre_of c.args.m.now)) (prime_of c.args.m.now) (h_asked c.args.m.now c.args.c.now.terms) _ c.in-Value.raised c.in-Value.is c.in_ok-over.ensures.found) (c.args.n + 1) (next_is c.args.n) c.in_ok-difference_in.field-0 c.in_ok-difference_in.ensures.terms c.requires.values c.args.most (subst (λ k. k ≤ 32) (sym (next_is c.args.n)) c.requires.degree) (subst (λ k. Each (IsTensorIn c.args.m.now c.args.most k) c.in-Value.raised.terms) (sym (next_is c.args.n)) (if_found (EachIn (IsTensorIn c.args.m.now c.args.most (suc c.args.n))) _ c.in-Value.raised c.in-Value.is c.in_ok-over.ensures.tensors))

pub returns-clause-tensors : goal.returns-clause-tensors
returns-clause-tensors g c = subst (λ (z : ℕ × ℕ). Each (IsTensorIn c.args.m.now (room (values_of c.args.m.now) z.0 c.args.most) z.1) c.in_ok-difference_in.field-0.terms) (λ i. ((next_is c.args.n) i, less_is c.args.n i)) c.in_ok-difference_in.ensures.tensors
