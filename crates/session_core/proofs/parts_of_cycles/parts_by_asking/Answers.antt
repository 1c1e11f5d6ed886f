use Rattle.std.proofs.Common.{sym, ◌∙◌, ap, subst}
use Rattle.std.specs.List.Sorted.{IsStrictlySortedBy}
use Rattle.cells.specs.Small.{small_cmp}
use Rattle.oracle_iface.specs.declared.keys.Key.{Key}
use Rattle.homology_rules.specs.Asking.{MayForceEach, AskedFirst}
use Rattle.homology_rules.specs.Degrees.{cells_at}
use Rattle.session_core.specs.Along.{ComesAlong}
use Rattle.session_core.specs.KeyedParts.{keys_of_express, IsExpressed}
use Rattle.session_core.proofs.PartsTold.{rises, may-ours, asked-theirs, through-theirs, comes}
use Rattle.session_core.proofs.parts_of_cycles.parts_by_asking.Goals as goal

pub express_by_asking-requires-clause-prime : goal.express_by_asking-requires-clause-prime
express_by_asking-requires-clause-prime g c = c.requires.prime ∙ ap (λ (k : Key). k.prime) (sym c.in_ok-key.ensures)

pub express_by_asking-requires-clause-rising : goal.express_by_asking-requires-clause-rising
express_by_asking-requires-clause-rising g c = subst (λ (k : Key). IsStrictlySortedBy small_cmp (cells_at k c.args.n)) (sym c.in_ok-key.ensures) (rises c.args.p c.args.term.now c.requires.ready c.args.n c.requires.degree c.args.z.now.terms c.requires.cells c.requires.degrees)

pub express_by_asking-requires-clause-forcer : goal.express_by_asking-requires-clause-forcer
express_by_asking-requires-clause-forcer g c =
    subst (λ (k : Key). MayForceEach g.F.Forcer.may_force g.F.Forcer.forces c.args.forcer.now (keys_of_express k c.args.n c.args.z.now.terms)) (sym c.in_ok-key.ensures)
    (may-ours c.args.p c.args.term.now c.requires.ready c.args.n c.requires.degree c.args.z.now.terms c.requires.cells c.requires.degrees g.F.Forcer.may_force g.F.Forcer.forces c.args.forcer.now c.args.forcer.now c.requires.forcer)

pub returns-in_err-answer-clause-asked : goal.returns-in_err-answer-clause-asked
returns-in_err-answer-clause-asked g c =
    asked-theirs c.args.p c.args.term.now c.requires.ready c.args.n c.requires.degree c.args.z.now.terms c.requires.cells c.requires.degrees g.F.Forcer.may_force g.F.Forcer.forces c.args.forcer.now c.express_by_asking.new.forcer
    (subst (λ (k : Key). AskedFirst g.F.Forcer.forces (keys_of_express k c.args.n c.args.z.now.terms) c.args.forcer.now c.express_by_asking.new.forcer) c.in_ok-key.ensures c.in_err-answer.ensures.asked)

pub returns-clause-asked : goal.returns-clause-asked
returns-clause-asked g c =
    asked-theirs c.args.p c.args.term.now c.requires.ready c.args.n c.requires.degree c.args.z.now.terms c.requires.cells c.requires.degrees g.F.Forcer.may_force g.F.Forcer.forces c.args.forcer.now c.express_by_asking.new.forcer
    (subst (λ (k : Key). AskedFirst g.F.Forcer.forces (keys_of_express k c.args.n c.args.z.now.terms) c.args.forcer.now c.express_by_asking.new.forcer) c.in_ok-key.ensures c.in_ok-answer.ensures.asked)

pub returns-clause-answer : goal.returns-clause-answer
returns-clause-answer g c =
    comes c.args.p c.args.term.now c.requires.ready c.args.n c.requires.degree c.args.z.now.terms c.requires.cells c.requires.degrees g.F.Forcer.may_force g.F.Forcer.forces c.args.forcer.now c.express_by_asking.new.forcer c.in_ok-answer.answer
    (subst (λ (k : Key). ComesAlong g.F.Forcer.forces (keys_of_express k c.args.n c.args.z.now.terms) (λ x. IsExpressed k c.args.n c.args.z.now.terms x)
    c.args.forcer.now c.express_by_asking.new.forcer c.in_ok-answer.answer) c.in_ok-key.ensures c.in_ok-answer.ensures.answer)

pub returns-clause-through : goal.returns-clause-through
returns-clause-through g c =
    through-theirs c.args.p c.args.term.now c.requires.ready c.args.n c.requires.degree c.args.z.now.terms c.requires.cells c.requires.degrees g.F.Forcer.may_force g.F.Forcer.forces c.args.forcer.now c.express_by_asking.new.forcer c.in_ok-answer.answer
    (subst (λ (k : Key). ComesAlong g.F.Forcer.forces (keys_of_express k c.args.n c.args.z.now.terms) (λ x. IsExpressed k c.args.n c.args.z.now.terms x)
    c.args.forcer.now c.express_by_asking.new.forcer c.in_ok-answer.answer) c.in_ok-key.ensures c.in_ok-answer.ensures.answer)
