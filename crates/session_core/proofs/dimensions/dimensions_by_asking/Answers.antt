use Rattle.std.proofs.Common.{◌≡◌, ◌≤◌, ◌-◌, ℕ, suc, sym, subst}
use Rattle.std.specs.List.Sorted.{IsStrictlySortedBy}
use Rattle.cells.specs.Small.{small_cmp}
use Rattle.oracle_iface.specs.declared.keys.Key.{Key}
use Rattle.homology_rules.specs.Asking.{MayForceEach, AskedFirst}
use Rattle.homology_rules.specs.Degrees.{cells_at}
use Rattle.session_core.specs.Along.{ComesAlong}
use Rattle.session_core.specs.Dimensions.{keys_of_dimensions, dimensions_at}
use Rattle.session_core.proofs.DimensionsTold.{rises, may-ours, asked-theirs, through-theirs, comes}
use Rattle.session_core.proofs.dimensions.dimensions_by_asking.Goals as goal

pub count_dimensions-requires-clause-rising : goal.count_dimensions-requires-clause-rising
count_dimensions-requires-clause-rising g c =
    subst (λ (k : Key). (n : ℕ) → n ≤ c.args.high → IsStrictlySortedBy small_cmp (cells_at k n)) (sym c.in_ok-key.ensures) (rises c.args.p c.args.term.now c.requires.ready c.args.low c.args.high c.requires.low c.requires.high)

pub count_dimensions-requires-clause-forcer : goal.count_dimensions-requires-clause-forcer
count_dimensions-requires-clause-forcer g c =
    subst (λ (k : Key). MayForceEach g.F.Forcer.may_force g.F.Forcer.forces c.args.forcer.now (keys_of_dimensions k c.args.low (suc c.args.high - c.args.low))) (sym c.in_ok-key.ensures)
    (may-ours c.args.p c.args.term.now c.requires.ready c.args.low c.args.high c.requires.low c.requires.high g.F.Forcer.may_force g.F.Forcer.forces c.args.forcer.now c.args.forcer.now c.requires.forcer)

pub returns-in_err-answer-clause-asked : goal.returns-in_err-answer-clause-asked
returns-in_err-answer-clause-asked g c =
    asked-theirs c.args.p c.args.term.now c.requires.ready c.args.low c.args.high c.requires.low c.requires.high g.F.Forcer.may_force g.F.Forcer.forces c.args.forcer.now c.count_dimensions.new.forcer
    (subst (λ (k : Key). AskedFirst g.F.Forcer.forces (keys_of_dimensions k c.args.low (suc c.args.high - c.args.low)) c.args.forcer.now c.count_dimensions.new.forcer) c.in_ok-key.ensures c.in_err-answer.ensures.asked)

pub returns-clause-asked : goal.returns-clause-asked
returns-clause-asked g c =
    asked-theirs c.args.p c.args.term.now c.requires.ready c.args.low c.args.high c.requires.low c.requires.high g.F.Forcer.may_force g.F.Forcer.forces c.args.forcer.now c.count_dimensions.new.forcer
    (subst (λ (k : Key). AskedFirst g.F.Forcer.forces (keys_of_dimensions k c.args.low (suc c.args.high - c.args.low)) c.args.forcer.now c.count_dimensions.new.forcer) c.in_ok-key.ensures c.in_ok-answer.ensures.asked)

pub returns-clause-answer : goal.returns-clause-answer
returns-clause-answer g c =
    comes c.args.p c.args.term.now c.requires.ready c.args.low c.args.high c.requires.low c.requires.high g.F.Forcer.may_force g.F.Forcer.forces c.args.forcer.now c.count_dimensions.new.forcer c.in_ok-answer.answer
    (subst (λ (k : Key). ComesAlong g.F.Forcer.forces (keys_of_dimensions k c.args.low (suc c.args.high - c.args.low)) (λ ds. ds ≡ dimensions_at k c.args.low (suc c.args.high - c.args.low))
    c.args.forcer.now c.count_dimensions.new.forcer c.in_ok-answer.answer) c.in_ok-key.ensures c.in_ok-answer.ensures.answer)

pub returns-clause-through : goal.returns-clause-through
returns-clause-through g c =
    through-theirs c.args.p c.args.term.now c.requires.ready c.args.low c.args.high c.requires.low c.requires.high g.F.Forcer.may_force g.F.Forcer.forces c.args.forcer.now c.count_dimensions.new.forcer c.in_ok-answer.answer
    (subst (λ (k : Key). ComesAlong g.F.Forcer.forces (keys_of_dimensions k c.args.low (suc c.args.high - c.args.low)) (λ ds. ds ≡ dimensions_at k c.args.low (suc c.args.high - c.args.low))
    c.args.forcer.now c.count_dimensions.new.forcer c.in_ok-answer.answer) c.in_ok-key.ensures c.in_ok-answer.ensures.answer)
