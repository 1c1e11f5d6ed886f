use Rattle.std.proofs.Common.{◌+◌, None, subst}
use Rattle.homology_rules.specs.Degrees.{keys_of_degree, IsDegreeAnswer}
use Rattle.homology_rules.proofs.Through.{whole-through}
use Rattle.session_core.proofs.Sequences.{refused-then, may-now, may-then, asked-now, asked-then, over-now, over-then, each-then}
use Rattle.session_core.proofs.degrees.ask_two_degrees.Goals as goal

pub ask_degree-requires : goal.ask_degree-requires
ask_degree-requires g c = may-now (keys_of_degree c.args.key.now c.args.n) (keys_of_degree c.args.key.now (c.args.n + 1)) g.F.Forcer.may_force g.F.Forcer.forces c.args.forcer.now c.args.forcer.now c.args.forcer.now c.requires.forcer

pub returns-in_err-over-clause-asked : goal.returns-in_err-over-clause-asked
returns-in_err-over-clause-asked g c = asked-now (keys_of_degree c.args.key.now c.args.n) (keys_of_degree c.args.key.now (c.args.n + 1)) g.F.Forcer.may_force g.F.Forcer.forces c.args.forcer.now c.ask_degree.new.forcer c.ask_degree.new.forcer c.in_err-over.ensures.asked

pub returns-in-Over-clause-asked : goal.returns-in-Over-clause-asked
returns-in-Over-clause-asked g c = asked-now (keys_of_degree c.args.key.now c.args.n) (keys_of_degree c.args.key.now (c.args.n + 1)) g.F.Forcer.may_force g.F.Forcer.forces c.args.forcer.now c.ask_degree.new.forcer c.ask_degree.new.forcer c.in_ok-over.ensures.asked

pub returns-in-Over-clause-answer : goal.returns-in-Over-clause-answer
returns-in-Over-clause-answer g c =
    over-now (keys_of_degree c.args.key.now c.args.n) (keys_of_degree c.args.key.now (c.args.n + 1)) g.F.Forcer.may_force g.F.Forcer.forces c.args.forcer.now c.ask_degree.new.forcer c.ask_degree.new.forcer c.in-Over.over
    (subst (λ x. IsDegreeAnswer g.F.Forcer.forces c.args.key.now c.args.n c.args.forcer.now c.ask_degree.new.forcer x) c.in-Over.is c.in_ok-over.ensures.answers, c.in_ok-over.ensures.through)

pub ask_degree-requires-2 : goal.ask_degree-requires-2
ask_degree-requires-2 g c =
    let low = (subst (λ x. IsDegreeAnswer g.F.Forcer.forces c.args.key.now c.args.n c.args.forcer.now c.ask_degree.new.forcer x) c.in-Found.is c.in_ok-over.ensures.answers) in
    may-then (keys_of_degree c.args.key.now c.args.n) (keys_of_degree c.args.key.now (c.args.n + 1)) g.F.Forcer.may_force g.F.Forcer.forces c.args.forcer.now c.ask_degree.new.forcer c.ask_degree.new.forcer c.requires.forcer low.none_refused (whole-through g.F.Forcer.forces (keys_of_degree c.args.key.now c.args.n) c.args.forcer.now c.ask_degree.new.forcer low.none_refused c.in_ok-over.ensures.through)

pub returns-in_err-over-2-clause-asked : goal.returns-in_err-over-2-clause-asked
returns-in_err-over-2-clause-asked g c =
    let low = (subst (λ x. IsDegreeAnswer g.F.Forcer.forces c.args.key.now c.args.n c.args.forcer.now c.ask_degree.new.forcer x) c.in-Found.is c.in_ok-over.ensures.answers) in
    asked-then (keys_of_degree c.args.key.now c.args.n) (keys_of_degree c.args.key.now (c.args.n + 1)) g.F.Forcer.may_force g.F.Forcer.forces c.args.forcer.now c.ask_degree.new.forcer c.ask_degree-2.new.forcer low.none_refused (whole-through g.F.Forcer.forces (keys_of_degree c.args.key.now c.args.n) c.args.forcer.now c.ask_degree.new.forcer low.none_refused c.in_ok-over.ensures.through) c.in_err-over-2.ensures.asked

pub returns-in-Over-2-clause-asked : goal.returns-in-Over-2-clause-asked
returns-in-Over-2-clause-asked g c =
    let low = (subst (λ x. IsDegreeAnswer g.F.Forcer.forces c.args.key.now c.args.n c.args.forcer.now c.ask_degree.new.forcer x) c.in-Found.is c.in_ok-over.ensures.answers) in
    asked-then (keys_of_degree c.args.key.now c.args.n) (keys_of_degree c.args.key.now (c.args.n + 1)) g.F.Forcer.may_force g.F.Forcer.forces c.args.forcer.now c.ask_degree.new.forcer c.ask_degree-2.new.forcer low.none_refused (whole-through g.F.Forcer.forces (keys_of_degree c.args.key.now c.args.n) c.args.forcer.now c.ask_degree.new.forcer low.none_refused c.in_ok-over.ensures.through) c.in_ok-over-2.ensures.asked

pub returns-in-Over-2-clause-answer : goal.returns-in-Over-2-clause-answer
returns-in-Over-2-clause-answer g c =
    let low = (subst (λ x. IsDegreeAnswer g.F.Forcer.forces c.args.key.now c.args.n c.args.forcer.now c.ask_degree.new.forcer x) c.in-Found.is c.in_ok-over.ensures.answers) in
    over-then (keys_of_degree c.args.key.now c.args.n) (keys_of_degree c.args.key.now (c.args.n + 1)) g.F.Forcer.may_force g.F.Forcer.forces c.args.forcer.now c.ask_degree.new.forcer c.ask_degree-2.new.forcer c.in-Over-2.over low.none_refused (whole-through g.F.Forcer.forces (keys_of_degree c.args.key.now c.args.n) c.args.forcer.now c.ask_degree.new.forcer low.none_refused c.in_ok-over.ensures.through)
    (subst (λ x. IsDegreeAnswer g.F.Forcer.forces c.args.key.now (c.args.n + 1) c.ask_degree.new.forcer c.ask_degree-2.new.forcer x) c.in-Over-2.is c.in_ok-over-2.ensures.answers, c.in_ok-over-2.ensures.through)

pub returns-in-Found-2-clause-asked : goal.returns-in-Found-2-clause-asked
returns-in-Found-2-clause-asked g c =
    let low = (subst (λ x. IsDegreeAnswer g.F.Forcer.forces c.args.key.now c.args.n c.args.forcer.now c.ask_degree.new.forcer x) c.in-Found.is c.in_ok-over.ensures.answers) in
    asked-then (keys_of_degree c.args.key.now c.args.n) (keys_of_degree c.args.key.now (c.args.n + 1)) g.F.Forcer.may_force g.F.Forcer.forces c.args.forcer.now c.ask_degree.new.forcer c.ask_degree-2.new.forcer low.none_refused (whole-through g.F.Forcer.forces (keys_of_degree c.args.key.now c.args.n) c.args.forcer.now c.ask_degree.new.forcer low.none_refused c.in_ok-over.ensures.through) c.in_ok-over-2.ensures.asked

pub returns-in-Found-2-clause-answer : goal.returns-in-Found-2-clause-answer
returns-in-Found-2-clause-answer g c =
    let low = (subst (λ x. IsDegreeAnswer g.F.Forcer.forces c.args.key.now c.args.n c.args.forcer.now c.ask_degree.new.forcer x) c.in-Found.is c.in_ok-over.ensures.answers) in
    let high = (subst (λ x. IsDegreeAnswer g.F.Forcer.forces c.args.key.now (c.args.n + 1) c.ask_degree.new.forcer c.ask_degree-2.new.forcer x) c.in-Found-2.is c.in_ok-over-2.ensures.answers) in (
      refused-then (keys_of_degree c.args.key.now c.args.n) (keys_of_degree c.args.key.now (c.args.n + 1)) None low.none_refused high.none_refused,
      record { first = c.args.forcer.now; middle = c.ask_degree.new.forcer; last = c.ask_degree-2.new.forcer; low = low; high = high },
      each-then (keys_of_degree c.args.key.now c.args.n) (keys_of_degree c.args.key.now (c.args.n + 1)) g.F.Forcer.may_force g.F.Forcer.forces c.args.forcer.now c.ask_degree.new.forcer c.ask_degree-2.new.forcer (whole-through g.F.Forcer.forces (keys_of_degree c.args.key.now c.args.n) c.args.forcer.now c.ask_degree.new.forcer low.none_refused c.in_ok-over.ensures.through)
          (whole-through g.F.Forcer.forces (keys_of_degree c.args.key.now (c.args.n + 1)) c.ask_degree.new.forcer c.ask_degree-2.new.forcer high.none_refused c.in_ok-over-2.ensures.through),
    )
