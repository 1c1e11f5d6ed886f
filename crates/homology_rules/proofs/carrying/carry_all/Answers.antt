use Rattle.std.proofs.Common.{sym, ◌∙◌, ap, subst}
use Rattle.homology_rules.specs.Asking.{first_refusal}
use Rattle.std.proofs.lemmas.List.{take_all}
use Rattle.elim_fp.specs.Rows.{vectors_of}
use Rattle.oracle_iface.specs.Forcing.{Asked}
use Rattle.homology_rules.specs.Vectors.{keys_of_vector, carried_of, keys_of_vectors, IsCarried}
use Rattle.homology_rules.proofs.GVectors.{may_vector, may_vectors, asked_vectors, asked_part, asked_whole, none_taken, refusal_taken, chains_more}
use Rattle.homology_rules.proofs.carrying.carry_all.Goals as goal

pub carry-requires-clause-forcer : goal.carry-requires-clause-forcer
carry-requires-clause-forcer g c =
    may_vector c.args.key.now c.args.cells.now c.args.vectors.now c.loop-vector.vector-index c.vector-item.result c.loop-vector-test.true c.vector-item.is
    g.F.Forcer.may_force g.F.Forcer.forces c.args.forcer.now c.loop-vector.forcer c.loop-vector.forcer c.loop-vector.invariant.may

pub returns-in_err-over-clause-asked : goal.returns-in_err-over-clause-asked
returns-in_err-over-clause-asked g c =
    asked_part c.args.key.now c.args.cells.now c.args.vectors.now c.loop-vector.vector-index c.vector-item.result c.loop-vector-test.true c.vector-item.is
    g.F.Forcer.may_force g.F.Forcer.forces c.args.forcer.now c.loop-vector.forcer c.carry.new.forcer c.loop-vector.invariant.none_refused c.loop-vector.invariant.asked c.in_err-over.ensures.asked

pub returns-in-Over-clause-asked : goal.returns-in-Over-clause-asked
returns-in-Over-clause-asked g c =
    asked_part c.args.key.now c.args.cells.now c.args.vectors.now c.loop-vector.vector-index c.vector-item.result c.loop-vector-test.true c.vector-item.is
    g.F.Forcer.may_force g.F.Forcer.forces c.args.forcer.now c.loop-vector.forcer c.carry.new.forcer c.loop-vector.invariant.none_refused c.loop-vector.invariant.asked c.in_ok-over.ensures.asked

pub returns-in_err-push-in-Sum-clause-asked : goal.returns-in_err-push-in-Sum-clause-asked
returns-in_err-push-in-Sum-clause-asked g c =
    asked_part c.args.key.now c.args.cells.now c.args.vectors.now c.loop-vector.vector-index c.vector-item.result c.loop-vector-test.true c.vector-item.is
    g.F.Forcer.may_force g.F.Forcer.forces c.args.forcer.now c.loop-vector.forcer c.carry.new.forcer c.loop-vector.invariant.none_refused c.loop-vector.invariant.asked c.in_ok-over.ensures.asked

pub returns-in-Over-clause-carried : goal.returns-in-Over-clause-carried
returns-in-Over-clause-carried g c =
    refusal_taken c.args.key.now c.args.cells.now c.args.vectors.now c.loop-vector.vector-index c.vector-item.result c.loop-vector-test.true c.vector-item.is c.in-Over.over c.loop-vector.invariant.none_refused
    (subst (λ x. IsCarried g.F.Forcer.forces (keys_of_vector c.args.key.now c.args.cells.now c.vector-item.result.values) (carried_of c.args.key.now c.args.cells.now c.vector-item.result.values)
    c.loop-vector.forcer c.carry.new.forcer x) c.in-Over.is c.in_ok-over.ensures.carried)

pub loop-vector-preserved : goal.loop-vector-preserved
loop-vector-preserved g c =
    let h = subst (λ x. IsCarried g.F.Forcer.forces (keys_of_vector c.args.key.now c.args.cells.now c.vector-item.result.values)
    (carried_of c.args.key.now c.args.cells.now c.vector-item.result.values) c.loop-vector.forcer c.carry.new.forcer x) c.in-Sum.is c.in_ok-over.ensures.carried in
    record {
      may = may_vectors c.args.key.now c.args.cells.now c.args.vectors.now c.loop-vector.vector-index c.vector-item.result c.loop-vector-test.true c.vector-item.is
          g.F.Forcer.may_force g.F.Forcer.forces c.args.forcer.now c.loop-vector.forcer c.carry.new.forcer c.loop-vector.invariant.may h.0 h.2;
      asked = asked_vectors c.args.key.now c.args.cells.now c.args.vectors.now c.loop-vector.vector-index c.vector-item.result c.loop-vector-test.true c.vector-item.is
          g.F.Forcer.may_force g.F.Forcer.forces c.args.forcer.now c.loop-vector.forcer c.carry.new.forcer c.loop-vector.invariant.asked h.2;
      chains_are = chains_more c.args.key.now c.args.cells.now c.args.vectors.now c.loop-vector.vector-index c.vector-item.result c.loop-vector-test.true c.vector-item.is c.loop-vector.chains c.push.new.self c.in-Sum.chain c.loop-vector.invariant.chains_are h.1 c.in_ok-push-in-Sum.ensures.ok;
      none_refused = none_taken c.args.key.now c.args.cells.now c.args.vectors.now c.loop-vector.vector-index c.vector-item.result c.loop-vector-test.true c.vector-item.is c.loop-vector.invariant.none_refused h.0;
    }

pub returns-clause-asked : goal.returns-clause-asked
returns-clause-asked g c =
    asked_whole g.F.Forcer.may_force g.F.Forcer.forces c.args.forcer.now c.loop-vector.forcer (keys_of_vectors c.args.key.now c.args.cells.now (vectors_of c.args.vectors.now))
    (ap (λ rs. first_refusal (keys_of_vectors c.args.key.now c.args.cells.now (vectors_of rs))) (sym (take_all c.loop-vector.vector-index c.args.vectors.now c.loop-vector-test.false))
    ∙ c.loop-vector.invariant.none_refused)
    (subst (λ rs. Asked g.F.Forcer.forces c.args.forcer.now (keys_of_vectors c.args.key.now c.args.cells.now (vectors_of rs)) c.loop-vector.forcer)
    (take_all c.loop-vector.vector-index c.args.vectors.now c.loop-vector-test.false) c.loop-vector.invariant.asked)
