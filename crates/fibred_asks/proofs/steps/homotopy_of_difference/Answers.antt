use Rattle.std.proofs.Common.{ℕ, suc, sym, subst}
use Rattle.std.specs.Prelude.{IfOk}
use Rattle.std.proofs.lemmas.Result.{IfOk-weaker}
use Rattle.fp_field.specs.Chains.{Terms, Each}
use Rattle.spaces.specs.Spaces.{Plain}
use Rattle.spaces.specs.EilenbergZilber.{Tensor}
use Rattle.values.specs.Asks.{Right}
use Rattle.homology_rules.specs.Asking.{up_to_refusal, MayForceEach, AskedFirst, EachAnswered}
use Rattle.part_asks.specs.Along.{AsksValid}
use Rattle.part_asks.specs.Askers.{formal_tensors}
use Rattle.part_asks.specs.Reading.{keys_of, IsFound}
use Rattle.part_asks.proofs.Reached.{asked-nothing}
use Rattle.fibred_asks.specs.Parts.{IfFound, EachIn}
use Rattle.fibred_asks.specs.Asked.{prime_of, base_of, fibre_of, IsTensorIn}
use Rattle.fibred_asks.proofs.SeriesSteps.{first-same, first-back}
use Rattle.fibred_asks.proofs.steps.homotopy_of_difference.Goals as goal

pub returns-in_err-change-clause-asked : goal.returns-in_err-change-clause-asked
returns-in_err-change-clause-asked g c = asked-nothing g.F.Forcer.forces _ c.args.forcer.now

pub on_tensors-requires-clause-tensors : goal.on_tensors-requires-clause-tensors
on_tensors-requires-clause-tensors g c = subst (λ (z : ℕ × ℕ). Each (IsTensorIn c.args.m.now z.0 z.1) c.in_ok-change.change.terms) (λ i. (sym c.reach_after.ensures i, sym c.lower.ensures i)) c.in_ok-change.ensures.tensors

pub on_tensors-requires-clause-valid : goal.on_tensors-requires-clause-valid
on_tensors-requires-clause-valid g c = subst (λ (R : Right (Terms (Tensor (Plain (base_of c.args.m.now)) (Plain (fibre_of c.args.m.now))))). AsksValid (prime_of c.args.m.now) R) (sym (first-same c.args.m.now c.requires.parts c.requires.values c.args.most c.args.n c.requires.degree c.args.c.now.terms c.requires.tensors c.in_ok-change.change.terms c.in_ok-change.ensures.terms)) c.requires.valid

pub on_tensors-requires-clause-asks : goal.on_tensors-requires-clause-asks
on_tensors-requires-clause-asks g c = subst (λ (R : Right (Terms (Tensor (Plain (base_of c.args.m.now)) (Plain (fibre_of c.args.m.now))))). MayForceEach g.F.Forcer.may_force g.F.Forcer.forces c.args.forcer.now (keys_of (prime_of c.args.m.now) R)) (sym (first-same c.args.m.now c.requires.parts c.requires.values c.args.most c.args.n c.requires.degree c.args.c.now.terms c.requires.tensors c.in_ok-change.change.terms c.in_ok-change.ensures.terms)) c.requires.asks

pub returns-clause-asked : goal.returns-clause-asked
returns-clause-asked g c = subst (λ (R : Right (Terms (Tensor (Plain (base_of c.args.m.now)) (Plain (fibre_of c.args.m.now))))). AskedFirst g.F.Forcer.forces (keys_of (prime_of c.args.m.now) R) c.args.forcer.now c.on_tensors.new.forcer) (first-same c.args.m.now c.requires.parts c.requires.values c.args.most c.args.n c.requires.degree c.args.c.now.terms c.requires.tensors c.in_ok-change.change.terms c.in_ok-change.ensures.terms) c.on_tensors.ensures.asked

pub returns-clause-through : goal.returns-clause-through
returns-clause-through g c = subst (λ (R : Right (Terms (Tensor (Plain (base_of c.args.m.now)) (Plain (fibre_of c.args.m.now))))). IfOk c.on_tensors.result (λ o. EachAnswered g.F.Forcer.forces c.args.forcer.now (up_to_refusal (keys_of (prime_of c.args.m.now) R)) c.on_tensors.new.forcer)) (first-same c.args.m.now c.requires.parts c.requires.values c.args.most c.args.n c.requires.degree c.args.c.now.terms c.requires.tensors c.in_ok-change.change.terms c.in_ok-change.ensures.terms) c.on_tensors.ensures.through

pub returns-clause-found : goal.returns-clause-found
returns-clause-found g c = subst (λ (R : Right (Terms (Tensor (Plain (base_of c.args.m.now)) (Plain (fibre_of c.args.m.now))))). IfOk c.on_tensors.result (λ o. IsFound (formal_tensors (prime_of c.args.m.now) (base_of c.args.m.now) (fibre_of c.args.m.now)) (prime_of c.args.m.now) R o)) (first-same c.args.m.now c.requires.parts c.requires.values c.args.most c.args.n c.requires.degree c.args.c.now.terms c.requires.tensors c.in_ok-change.change.terms c.in_ok-change.ensures.terms) c.on_tensors.ensures.found

pub returns-clause-back : goal.returns-clause-back
returns-clause-back g c = IfOk-weaker c.on_tensors.result _ _ (λ o h. first-back c.args.m.now c.requires.parts c.requires.values c.args.most c.args.n c.requires.degree c.args.c.now.terms c.requires.tensors c.in_ok-change.change.terms c.in_ok-change.ensures.terms o c.requires.valid h) c.on_tensors.ensures.found

pub returns-clause-tensors : goal.returns-clause-tensors
returns-clause-tensors g c = subst (λ (z : ℕ × ℕ). IfOk c.on_tensors.result (λ o. IfFound (EachIn (IsTensorIn c.args.m.now z.0 (suc z.1))) o)) (λ i. (c.reach_after.ensures i, c.lower.ensures i)) c.on_tensors.ensures.tensors
