use Rattle.std.proofs.Common.{None, subst}
use Rattle.session_core.specs.Dimensions.{AreDegrees}
use Rattle.session_core.specs.KeyedParts.{keys_of_degrees, keys_of_images, AreImages}
use Rattle.session_core.specs.Along.{ComesAlong}
use Rattle.session_core.proofs.Sequences.{refused-then, may-now, may-then, asked-now, asked-then, over-now, over-then, each-then}
use Rattle.session_core.proofs.keyed_parts.ask_found.Goals as goal

pub ask_degrees-requires-clause-forcer : goal.ask_degrees-requires-clause-forcer
ask_degrees-requires-clause-forcer g c = may-now (keys_of_degrees c.args.key.now c.args.n) (keys_of_images c.args.key.now c.args.z.now.terms) g.F.Forcer.may_force g.F.Forcer.forces c.args.forcer.now c.args.forcer.now c.args.forcer.now c.requires.forcer

pub returns-in_err-over-clause-asked : goal.returns-in_err-over-clause-asked
returns-in_err-over-clause-asked g c = asked-now (keys_of_degrees c.args.key.now c.args.n) (keys_of_images c.args.key.now c.args.z.now.terms) g.F.Forcer.may_force g.F.Forcer.forces c.args.forcer.now c.ask_degrees.new.forcer c.ask_degrees.new.forcer c.in_err-over.ensures.asked

pub returns-in-Over-clause-asked : goal.returns-in-Over-clause-asked
returns-in-Over-clause-asked g c = asked-now (keys_of_degrees c.args.key.now c.args.n) (keys_of_images c.args.key.now c.args.z.now.terms) g.F.Forcer.may_force g.F.Forcer.forces c.args.forcer.now c.ask_degrees.new.forcer c.ask_degrees.new.forcer c.in_ok-over.ensures.asked

pub returns-in-Over-clause-answer : goal.returns-in-Over-clause-answer
returns-in-Over-clause-answer g c = over-now (keys_of_degrees c.args.key.now c.args.n) (keys_of_images c.args.key.now c.args.z.now.terms) g.F.Forcer.may_force g.F.Forcer.forces c.args.forcer.now c.ask_degrees.new.forcer c.ask_degrees.new.forcer c.in-Over.over (subst (λ x. ComesAlong g.F.Forcer.forces (keys_of_degrees c.args.key.now c.args.n) (λ d. AreDegrees g.F.Forcer.forces c.args.key.now c.args.n d) c.args.forcer.now c.ask_degrees.new.forcer x) c.in-Over.is c.in_ok-over.ensures.answer)

pub ask_images-requires-clause-forcer : goal.ask_images-requires-clause-forcer
ask_images-requires-clause-forcer g c =
    let told = (subst (λ x. ComesAlong g.F.Forcer.forces (keys_of_degrees c.args.key.now c.args.n) (λ d. AreDegrees g.F.Forcer.forces c.args.key.now c.args.n d) c.args.forcer.now c.ask_degrees.new.forcer x) c.in-Told.is c.in_ok-over.ensures.answer) in
    (may-then (keys_of_degrees c.args.key.now c.args.n) (keys_of_images c.args.key.now c.args.z.now.terms) g.F.Forcer.may_force g.F.Forcer.forces c.args.forcer.now c.ask_degrees.new.forcer c.ask_degrees.new.forcer c.requires.forcer told.0 told.2)

pub returns-in_err-over-2-clause-asked : goal.returns-in_err-over-2-clause-asked
returns-in_err-over-2-clause-asked g c =
    let told = (subst (λ x. ComesAlong g.F.Forcer.forces (keys_of_degrees c.args.key.now c.args.n) (λ d. AreDegrees g.F.Forcer.forces c.args.key.now c.args.n d) c.args.forcer.now c.ask_degrees.new.forcer x) c.in-Told.is c.in_ok-over.ensures.answer) in
    asked-then (keys_of_degrees c.args.key.now c.args.n) (keys_of_images c.args.key.now c.args.z.now.terms) g.F.Forcer.may_force g.F.Forcer.forces c.args.forcer.now c.ask_degrees.new.forcer c.ask_images.new.forcer told.0 told.2 c.in_err-over-2.ensures.asked

pub returns-in-Over-2-clause-asked : goal.returns-in-Over-2-clause-asked
returns-in-Over-2-clause-asked g c =
    let told = (subst (λ x. ComesAlong g.F.Forcer.forces (keys_of_degrees c.args.key.now c.args.n) (λ d. AreDegrees g.F.Forcer.forces c.args.key.now c.args.n d) c.args.forcer.now c.ask_degrees.new.forcer x) c.in-Told.is c.in_ok-over.ensures.answer) in
    asked-then (keys_of_degrees c.args.key.now c.args.n) (keys_of_images c.args.key.now c.args.z.now.terms) g.F.Forcer.may_force g.F.Forcer.forces c.args.forcer.now c.ask_degrees.new.forcer c.ask_images.new.forcer told.0 told.2 c.in_ok-over-2.ensures.asked

pub returns-in-Over-2-clause-answer : goal.returns-in-Over-2-clause-answer
returns-in-Over-2-clause-answer g c =
    let told = (subst (λ x. ComesAlong g.F.Forcer.forces (keys_of_degrees c.args.key.now c.args.n) (λ d. AreDegrees g.F.Forcer.forces c.args.key.now c.args.n d) c.args.forcer.now c.ask_degrees.new.forcer x) c.in-Told.is c.in_ok-over.ensures.answer) in
    over-then (keys_of_degrees c.args.key.now c.args.n) (keys_of_images c.args.key.now c.args.z.now.terms) g.F.Forcer.may_force g.F.Forcer.forces c.args.forcer.now c.ask_degrees.new.forcer c.ask_images.new.forcer c.in-Over-2.over told.0 told.2
    (subst (λ x. ComesAlong g.F.Forcer.forces (keys_of_images c.args.key.now c.args.z.now.terms) (λ i. AreImages c.args.key.now c.args.z.now.terms i) c.ask_degrees.new.forcer c.ask_images.new.forcer x) c.in-Over-2.is c.in_ok-over-2.ensures.answer)

pub returns-in-Told-2-clause-asked : goal.returns-in-Told-2-clause-asked
returns-in-Told-2-clause-asked g c =
    let told = (subst (λ x. ComesAlong g.F.Forcer.forces (keys_of_degrees c.args.key.now c.args.n) (λ d. AreDegrees g.F.Forcer.forces c.args.key.now c.args.n d) c.args.forcer.now c.ask_degrees.new.forcer x) c.in-Told.is c.in_ok-over.ensures.answer) in
    asked-then (keys_of_degrees c.args.key.now c.args.n) (keys_of_images c.args.key.now c.args.z.now.terms) g.F.Forcer.may_force g.F.Forcer.forces c.args.forcer.now c.ask_degrees.new.forcer c.ask_images.new.forcer told.0 told.2 c.in_ok-over-2.ensures.asked

pub returns-in-Told-2-clause-answer : goal.returns-in-Told-2-clause-answer
returns-in-Told-2-clause-answer g c =
    let told = (subst (λ x. ComesAlong g.F.Forcer.forces (keys_of_degrees c.args.key.now c.args.n) (λ d. AreDegrees g.F.Forcer.forces c.args.key.now c.args.n d) c.args.forcer.now c.ask_degrees.new.forcer x) c.in-Told.is c.in_ok-over.ensures.answer) in
    let last = (subst (λ x. ComesAlong g.F.Forcer.forces (keys_of_images c.args.key.now c.args.z.now.terms) (λ i. AreImages c.args.key.now c.args.z.now.terms i) c.ask_degrees.new.forcer c.ask_images.new.forcer x) c.in-Told-2.is c.in_ok-over-2.ensures.answer) in (
      refused-then (keys_of_degrees c.args.key.now c.args.n) (keys_of_images c.args.key.now c.args.z.now.terms) None told.0 last.0,
      (told.1, last.1),
      each-then (keys_of_degrees c.args.key.now c.args.n) (keys_of_images c.args.key.now c.args.z.now.terms) g.F.Forcer.may_force g.F.Forcer.forces c.args.forcer.now c.ask_degrees.new.forcer c.ask_images.new.forcer told.2 last.2,
    )
