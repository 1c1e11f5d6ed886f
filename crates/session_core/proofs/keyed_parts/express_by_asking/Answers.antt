use Rattle.std.proofs.Common.{◌≡◌, Some, None, sym, ap, subst}
use Rattle.homology_rules.specs.Asking.{first_refusal, up_to_refusal, MayForceEach, AskedFirst, EachAnswered}
use Rattle.session_core.specs.KeyedParts.{image_at, keys_of_filling, keys_before, IsFilled, AreFound}
use Rattle.session_core.specs.Along.{ComesAlong}
use Rattle.session_core.proofs.Sequences.{refused-then, may-now, may-then, asked-now, asked-then, over-now, over-then, each-then}
use Rattle.session_core.proofs.keyed_parts.express_by_asking.Goals as goal

pub ask_found-requires-clause-forcer : goal.ask_found-requires-clause-forcer
ask_found-requires-clause-forcer g c = may-now (keys_before c.args.key.now c.args.n c.args.z.now.terms) (keys_of_filling c.args.key.now c.args.n (image_at c.args.key.now c.args.z.now.terms).terms) g.F.Forcer.may_force g.F.Forcer.forces c.args.forcer.now c.args.forcer.now c.args.forcer.now c.requires.forcer

pub returns-in_err-over-clause-asked : goal.returns-in_err-over-clause-asked
returns-in_err-over-clause-asked g c = asked-now (keys_before c.args.key.now c.args.n c.args.z.now.terms) (keys_of_filling c.args.key.now c.args.n (image_at c.args.key.now c.args.z.now.terms).terms) g.F.Forcer.may_force g.F.Forcer.forces c.args.forcer.now c.ask_found.new.forcer c.ask_found.new.forcer c.in_err-over.ensures.asked

pub returns-in-Over-clause-asked : goal.returns-in-Over-clause-asked
returns-in-Over-clause-asked g c = asked-now (keys_before c.args.key.now c.args.n c.args.z.now.terms) (keys_of_filling c.args.key.now c.args.n (image_at c.args.key.now c.args.z.now.terms).terms) g.F.Forcer.may_force g.F.Forcer.forces c.args.forcer.now c.ask_found.new.forcer c.ask_found.new.forcer c.in_ok-over.ensures.asked

pub returns-in-Over-clause-answer : goal.returns-in-Over-clause-answer
returns-in-Over-clause-answer g c = over-now (keys_before c.args.key.now c.args.n c.args.z.now.terms) (keys_of_filling c.args.key.now c.args.n (image_at c.args.key.now c.args.z.now.terms).terms) g.F.Forcer.may_force g.F.Forcer.forces c.args.forcer.now c.ask_found.new.forcer c.ask_found.new.forcer c.in-Over.over (subst (λ x. ComesAlong g.F.Forcer.forces (keys_before c.args.key.now c.args.n c.args.z.now.terms) (λ x. AreFound g.F.Forcer.forces c.args.key.now c.args.n c.args.z.now.terms x) c.args.forcer.now c.ask_found.new.forcer x) c.in-Over.is c.in_ok-over.ensures.answer)

pub fill-requires-clause-degrees : goal.fill-requires-clause-degrees
fill-requires-clause-degrees g c = let told = (subst (λ x. ComesAlong g.F.Forcer.forces (keys_before c.args.key.now c.args.n c.args.z.now.terms) (λ x. AreFound g.F.Forcer.forces c.args.key.now c.args.n c.args.z.now.terms x) c.args.forcer.now c.ask_found.new.forcer x) c.in-Told.is c.in_ok-over.ensures.answer) in told.1.0

pub fill-requires-clause-image : goal.fill-requires-clause-image
fill-requires-clause-image g c = let told = (subst (λ x. ComesAlong g.F.Forcer.forces (keys_before c.args.key.now c.args.n c.args.z.now.terms) (λ x. AreFound g.F.Forcer.forces c.args.key.now c.args.n c.args.z.now.terms x) c.args.forcer.now c.ask_found.new.forcer x) c.in-Told.is c.in_ok-over.ensures.answer) in ap (λ i. i.prime) told.1.1.image

pub fill-requires-clause-homotopy : goal.fill-requires-clause-homotopy
fill-requires-clause-homotopy g c = let told = (subst (λ x. ComesAlong g.F.Forcer.forces (keys_before c.args.key.now c.args.n c.args.z.now.terms) (λ x. AreFound g.F.Forcer.forces c.args.key.now c.args.n c.args.z.now.terms x) c.args.forcer.now c.ask_found.new.forcer x) c.in-Told.is c.in_ok-over.ensures.answer) in ap (λ i. i.prime) told.1.1.homotopy

pub fill-requires-clause-forcer : goal.fill-requires-clause-forcer
fill-requires-clause-forcer g c =
    let told = (subst (λ x. ComesAlong g.F.Forcer.forces (keys_before c.args.key.now c.args.n c.args.z.now.terms) (λ x. AreFound g.F.Forcer.forces c.args.key.now c.args.n c.args.z.now.terms x) c.args.forcer.now c.ask_found.new.forcer x) c.in-Told.is c.in_ok-over.ensures.answer) in
    subst (λ i. MayForceEach g.F.Forcer.may_force g.F.Forcer.forces c.ask_found.new.forcer (keys_of_filling c.args.key.now c.args.n i.terms)) (sym told.1.1.image) (may-then (keys_before c.args.key.now c.args.n c.args.z.now.terms) (keys_of_filling c.args.key.now c.args.n (image_at c.args.key.now c.args.z.now.terms).terms) g.F.Forcer.may_force g.F.Forcer.forces c.args.forcer.now c.ask_found.new.forcer c.ask_found.new.forcer c.requires.forcer told.0 told.2)

pub returns-in_err-over-2-clause-asked : goal.returns-in_err-over-2-clause-asked
returns-in_err-over-2-clause-asked g c =
    let told = (subst (λ x. ComesAlong g.F.Forcer.forces (keys_before c.args.key.now c.args.n c.args.z.now.terms) (λ x. AreFound g.F.Forcer.forces c.args.key.now c.args.n c.args.z.now.terms x) c.args.forcer.now c.ask_found.new.forcer x) c.in-Told.is c.in_ok-over.ensures.answer) in
    asked-then (keys_before c.args.key.now c.args.n c.args.z.now.terms) (keys_of_filling c.args.key.now c.args.n (image_at c.args.key.now c.args.z.now.terms).terms) g.F.Forcer.may_force g.F.Forcer.forces c.args.forcer.now c.ask_found.new.forcer c.fill.new.forcer told.0 told.2 (subst (λ i. AskedFirst g.F.Forcer.forces (keys_of_filling c.args.key.now c.args.n i.terms) c.ask_found.new.forcer c.fill.new.forcer) told.1.1.image c.in_err-over-2.ensures.asked)

pub returns-in-Over-2-clause-asked : goal.returns-in-Over-2-clause-asked
returns-in-Over-2-clause-asked g c =
    let told = (subst (λ x. ComesAlong g.F.Forcer.forces (keys_before c.args.key.now c.args.n c.args.z.now.terms) (λ x. AreFound g.F.Forcer.forces c.args.key.now c.args.n c.args.z.now.terms x) c.args.forcer.now c.ask_found.new.forcer x) c.in-Told.is c.in_ok-over.ensures.answer) in
    asked-then (keys_before c.args.key.now c.args.n c.args.z.now.terms) (keys_of_filling c.args.key.now c.args.n (image_at c.args.key.now c.args.z.now.terms).terms) g.F.Forcer.may_force g.F.Forcer.forces c.args.forcer.now c.ask_found.new.forcer c.fill.new.forcer told.0 told.2 (subst (λ i. AskedFirst g.F.Forcer.forces (keys_of_filling c.args.key.now c.args.n i.terms) c.ask_found.new.forcer c.fill.new.forcer) told.1.1.image c.in_ok-over-2.ensures.asked)

pub returns-in-Over-2-clause-answer : goal.returns-in-Over-2-clause-answer
returns-in-Over-2-clause-answer g c =
    let told = (subst (λ x. ComesAlong g.F.Forcer.forces (keys_before c.args.key.now c.args.n c.args.z.now.terms) (λ x. AreFound g.F.Forcer.forces c.args.key.now c.args.n c.args.z.now.terms x) c.args.forcer.now c.ask_found.new.forcer x) c.in-Told.is c.in_ok-over.ensures.answer) in
    over-then (keys_before c.args.key.now c.args.n c.args.z.now.terms) (keys_of_filling c.args.key.now c.args.n (image_at c.args.key.now c.args.z.now.terms).terms) g.F.Forcer.may_force g.F.Forcer.forces c.args.forcer.now c.ask_found.new.forcer c.fill.new.forcer c.in-Over-2.over told.0 told.2
    (subst (λ i. (first_refusal (keys_of_filling c.args.key.now c.args.n i.terms) ≡ Some c.in-Over-2.over) × EachAnswered g.F.Forcer.forces c.ask_found.new.forcer (up_to_refusal (keys_of_filling c.args.key.now c.args.n i.terms)) c.fill.new.forcer) told.1.1.image (subst (λ x. ComesAlong g.F.Forcer.forces (keys_of_filling c.args.key.now c.args.n c.in-Told.found.images.image.terms) (λ x. IsFilled c.args.key.now c.args.n c.in-Told.found.images.image.terms c.in-Told.found.images.homotopy.terms x) c.ask_found.new.forcer c.fill.new.forcer x) c.in-Over-2.is c.in_ok-over-2.ensures.answer))

pub returns-clause-asked : goal.returns-clause-asked
returns-clause-asked g c =
    let told = (subst (λ x. ComesAlong g.F.Forcer.forces (keys_before c.args.key.now c.args.n c.args.z.now.terms) (λ x. AreFound g.F.Forcer.forces c.args.key.now c.args.n c.args.z.now.terms x) c.args.forcer.now c.ask_found.new.forcer x) c.in-Told.is c.in_ok-over.ensures.answer) in
    asked-then (keys_before c.args.key.now c.args.n c.args.z.now.terms) (keys_of_filling c.args.key.now c.args.n (image_at c.args.key.now c.args.z.now.terms).terms) g.F.Forcer.may_force g.F.Forcer.forces c.args.forcer.now c.ask_found.new.forcer c.fill.new.forcer told.0 told.2 (subst (λ i. AskedFirst g.F.Forcer.forces (keys_of_filling c.args.key.now c.args.n i.terms) c.ask_found.new.forcer c.fill.new.forcer) told.1.1.image c.in_ok-over-2.ensures.asked)

pub returns-clause-answer : goal.returns-clause-answer
returns-clause-answer g c =
    let told = (subst (λ x. ComesAlong g.F.Forcer.forces (keys_before c.args.key.now c.args.n c.args.z.now.terms) (λ x. AreFound g.F.Forcer.forces c.args.key.now c.args.n c.args.z.now.terms x) c.args.forcer.now c.ask_found.new.forcer x) c.in-Told.is c.in_ok-over.ensures.answer) in
    let last = (subst (λ i. (first_refusal (keys_of_filling c.args.key.now c.args.n i.terms) ≡ None) × IsFilled c.args.key.now c.args.n i.terms c.in-Told.found.images.homotopy.terms c.in-Told-2.expressed × EachAnswered g.F.Forcer.forces c.ask_found.new.forcer (keys_of_filling c.args.key.now c.args.n i.terms) c.fill.new.forcer) told.1.1.image (subst (λ x. ComesAlong g.F.Forcer.forces (keys_of_filling c.args.key.now c.args.n c.in-Told.found.images.image.terms) (λ x. IsFilled c.args.key.now c.args.n c.in-Told.found.images.image.terms c.in-Told.found.images.homotopy.terms x) c.ask_found.new.forcer c.fill.new.forcer x) c.in-Told-2.is c.in_ok-over-2.ensures.answer)) in (
      refused-then (keys_before c.args.key.now c.args.n c.args.z.now.terms) (keys_of_filling c.args.key.now c.args.n (image_at c.args.key.now c.args.z.now.terms).terms) None told.0 last.0,
      subst (λ h. IsFilled c.args.key.now c.args.n (image_at c.args.key.now c.args.z.now.terms).terms h.terms c.in-Told-2.expressed) told.1.1.homotopy last.1,
      each-then (keys_before c.args.key.now c.args.n c.args.z.now.terms) (keys_of_filling c.args.key.now c.args.n (image_at c.args.key.now c.args.z.now.terms).terms) g.F.Forcer.may_force g.F.Forcer.forces c.args.forcer.now c.ask_found.new.forcer c.fill.new.forcer told.2 last.2,
    )
