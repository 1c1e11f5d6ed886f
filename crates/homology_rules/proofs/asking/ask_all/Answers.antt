use Rattle.std.proofs.Common.{Some, Ok, Err, take, drop, sym, ◌∙◌, ap, subst}
use Rattle.oracle_iface.specs.declared.bodies.Outcome.TheVariants.{Value, Over as IsOver}
use Rattle.std.proofs.lemmas.List.{take_all, take-append-drop}
use Rattle.oracle_iface.specs.Forcing.{Asked}
use Rattle.homology_rules.specs.Asking.{first_refusal, EachAnswered}
use Rattle.homology_rules.proofs.GVectors.{asked_first_of, asked_whole}
use Rattle.homology_rules.proofs.Answered.{refusal-of_cell, none_more, refusal_found, keys_more, may_now, may_then, asked_more, first_more}
use Rattle.homology_rules.proofs.Through.{each-more, through-found, through-whole}
use Rattle.homology_rules.proofs.asking.ask_all.Goals as goal

pub force-requires : goal.force-requires
force-requires g c =
    subst (λ k. g.F.Forcer.may_force c.loop-key.forcer k) (sym c.in_ok-copy_key.ensures)
    (may_now c.args.keys.now c.loop-key.key-index c.key-item.result c.loop-key-test.true c.key-item.is g.F.Forcer.may_force g.F.Forcer.forces c.args.forcer.now c.loop-key.forcer c.loop-key.forcer
    c.loop-key.invariant.may)

pub returns-in_err-copy_key-clause-asked : goal.returns-in_err-copy_key-clause-asked
returns-in_err-copy_key-clause-asked g c =
    asked_first_of g.F.Forcer.may_force g.F.Forcer.forces c.args.forcer.now c.loop-key.forcer (take c.loop-key.key-index c.args.keys.now) (drop c.loop-key.key-index c.args.keys.now) c.args.keys.now
    (sym (take-append-drop c.loop-key.key-index c.args.keys.now))
    (asked_whole g.F.Forcer.may_force g.F.Forcer.forces c.args.forcer.now c.loop-key.forcer (take c.loop-key.key-index c.args.keys.now) c.loop-key.invariant.none_refused c.loop-key.invariant.asked)

pub returns-in_err-cell-clause-asked : goal.returns-in_err-cell-clause-asked
returns-in_err-cell-clause-asked g c =
    first_more c.args.keys.now c.loop-key.key-index c.key-item.result c.loop-key-test.true c.key-item.is g.F.Forcer.may_force g.F.Forcer.forces c.args.forcer.now c.loop-key.forcer c.force.new.self
    (Err c.in_err-cell.field-0.0)
    (subst (λ k. g.F.Forcer.forces c.loop-key.forcer k (Err c.in_err-cell.field-0.0) c.force.new.self) c.in_ok-copy_key.ensures c.in_err-cell.ensures.call)
    c.loop-key.invariant.none_refused c.loop-key.invariant.asked

pub returns-in_err-push-in-Value-clause-asked : goal.returns-in_err-push-in-Value-clause-asked
returns-in_err-push-in-Value-clause-asked g c =
    first_more c.args.keys.now c.loop-key.key-index c.key-item.result c.loop-key-test.true c.key-item.is g.F.Forcer.may_force g.F.Forcer.forces c.args.forcer.now c.loop-key.forcer c.force.new.self
    (Ok c.in_ok-cell.cell)
    (subst (λ k. g.F.Forcer.forces c.loop-key.forcer k (Ok c.in_ok-cell.cell) c.force.new.self) c.in_ok-copy_key.ensures c.in_ok-cell.ensures.call)
    c.loop-key.invariant.none_refused c.loop-key.invariant.asked

pub returns-in_err-copy_over-in-Over-clause-asked : goal.returns-in_err-copy_over-in-Over-clause-asked
returns-in_err-copy_over-in-Over-clause-asked g c =
    first_more c.args.keys.now c.loop-key.key-index c.key-item.result c.loop-key-test.true c.key-item.is g.F.Forcer.may_force g.F.Forcer.forces c.args.forcer.now c.loop-key.forcer c.force.new.self
    (Ok c.in_ok-cell.cell)
    (subst (λ k. g.F.Forcer.forces c.loop-key.forcer k (Ok c.in_ok-cell.cell) c.force.new.self) c.in_ok-copy_key.ensures c.in_ok-cell.ensures.call)
    c.loop-key.invariant.none_refused c.loop-key.invariant.asked

pub returns-in-Over-clause-asked : goal.returns-in-Over-clause-asked
returns-in-Over-clause-asked g c =
    first_more c.args.keys.now c.loop-key.key-index c.key-item.result c.loop-key-test.true c.key-item.is g.F.Forcer.may_force g.F.Forcer.forces c.args.forcer.now c.loop-key.forcer c.force.new.self
    (Ok c.in_ok-cell.cell)
    (subst (λ k. g.F.Forcer.forces c.loop-key.forcer k (Ok c.in_ok-cell.cell) c.force.new.self) c.in_ok-copy_key.ensures c.in_ok-cell.ensures.call)
    c.loop-key.invariant.none_refused c.loop-key.invariant.asked

pub returns-in-Over-clause-answers : goal.returns-in-Over-clause-answers
returns-in-Over-clause-answers g c =
    refusal_found c.args.keys.now c.loop-key.key-index c.key-item.result c.loop-key-test.true c.key-item.is c.in-Over.over c.loop-key.invariant.none_refused
    (refusal-of_cell c.in_ok-cell.cell c.get.result.now c.in_ok-copy_key.field-0 c.key-item.result (IsOver c.in-Over.over) c.get.ensures c.in-Over.is c.in_ok-cell.ensures.key
    c.in_ok-copy_key.ensures)
    ∙ ap (λ w. Some w) (sym c.in_ok-copy_over-in-Over.ensures)

pub returns-in-Over-clause-through : goal.returns-in-Over-clause-through
returns-in-Over-clause-through g c =
    through-found g.F.Forcer.forces c.args.keys.now c.loop-key.key-index c.key-item.result c.loop-key-test.true c.key-item.is c.args.forcer.now c.loop-key.forcer c.force.new.self c.in_ok-cell.cell
    (subst (λ k. g.F.Forcer.forces c.loop-key.forcer k (Ok c.in_ok-cell.cell) c.force.new.self) c.in_ok-copy_key.ensures c.in_ok-cell.ensures.call) c.loop-key.invariant.answered c.in-Over.over c.loop-key.invariant.none_refused
    (refusal-of_cell c.in_ok-cell.cell c.get.result.now c.in_ok-copy_key.field-0 c.key-item.result (IsOver c.in-Over.over) c.get.ensures c.in-Over.is c.in_ok-cell.ensures.key
    c.in_ok-copy_key.ensures)

pub loop-key-preserved : goal.loop-key-preserved
loop-key-preserved g c = record {
  may = may_then c.args.keys.now c.loop-key.key-index c.key-item.result c.loop-key-test.true c.key-item.is g.F.Forcer.may_force g.F.Forcer.forces c.args.forcer.now c.loop-key.forcer c.force.new.self
      (Ok c.in_ok-cell.cell)
      (subst (λ k. g.F.Forcer.forces c.loop-key.forcer k (Ok c.in_ok-cell.cell) c.force.new.self) c.in_ok-copy_key.ensures c.in_ok-cell.ensures.call)
      (refusal-of_cell c.in_ok-cell.cell c.get.result.now c.in_ok-copy_key.field-0 c.key-item.result (Value c.in-Value.field-0) c.get.ensures c.in-Value.is c.in_ok-cell.ensures.key
      c.in_ok-copy_key.ensures)
      c.loop-key.invariant.may;
  asked = asked_more c.args.keys.now c.loop-key.key-index c.key-item.result c.loop-key-test.true c.key-item.is g.F.Forcer.may_force g.F.Forcer.forces c.args.forcer.now c.loop-key.forcer c.force.new.self
      (Ok c.in_ok-cell.cell)
      (subst (λ k. g.F.Forcer.forces c.loop-key.forcer k (Ok c.in_ok-cell.cell) c.force.new.self) c.in_ok-copy_key.ensures c.in_ok-cell.ensures.call)
      c.loop-key.invariant.asked;
  answered = each-more g.F.Forcer.forces c.args.keys.now c.loop-key.key-index c.key-item.result c.loop-key-test.true c.key-item.is c.args.forcer.now c.loop-key.forcer c.force.new.self c.in_ok-cell.cell
      (subst (λ k. g.F.Forcer.forces c.loop-key.forcer k (Ok c.in_ok-cell.cell) c.force.new.self) c.in_ok-copy_key.ensures c.in_ok-cell.ensures.call) c.loop-key.invariant.answered;
  keys_are = keys_more c.args.keys.now c.loop-key.key-index c.key-item.result c.loop-key-test.true c.key-item.is c.loop-key.values.items c.in_ok-cell.cell c.push.new.self.items
      c.in_ok-push-in-Value.ensures.items (c.in_ok-cell.ensures.key ∙ c.in_ok-copy_key.ensures) c.loop-key.invariant.keys_are;
  none_refused = none_more c.args.keys.now c.loop-key.key-index c.key-item.result c.loop-key-test.true c.key-item.is c.loop-key.invariant.none_refused
      (refusal-of_cell c.in_ok-cell.cell c.get.result.now c.in_ok-copy_key.field-0 c.key-item.result (Value c.in-Value.field-0) c.get.ensures c.in-Value.is c.in_ok-cell.ensures.key
      c.in_ok-copy_key.ensures);
}

pub returns-clause-asked : goal.returns-clause-asked
returns-clause-asked g c =
    asked_whole g.F.Forcer.may_force g.F.Forcer.forces c.args.forcer.now c.loop-key.forcer c.args.keys.now
    (ap first_refusal (sym (take_all c.loop-key.key-index c.args.keys.now c.loop-key-test.false)) ∙ c.loop-key.invariant.none_refused)
    (subst (λ ks. Asked g.F.Forcer.forces c.args.forcer.now ks c.loop-key.forcer) (take_all c.loop-key.key-index c.args.keys.now c.loop-key-test.false) c.loop-key.invariant.asked)

pub returns-clause-through : goal.returns-clause-through
returns-clause-through g c =
    through-whole g.F.Forcer.forces c.args.keys.now c.args.forcer.now c.loop-key.forcer
    (ap first_refusal (sym (take_all c.loop-key.key-index c.args.keys.now c.loop-key-test.false)) ∙ c.loop-key.invariant.none_refused)
    (subst (λ ks. EachAnswered g.F.Forcer.forces c.args.forcer.now ks c.loop-key.forcer) (take_all c.loop-key.key-index c.args.keys.now c.loop-key-test.false) c.loop-key.invariant.answered)
