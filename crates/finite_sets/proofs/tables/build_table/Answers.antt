use Rattle.std.proofs.Common.{sym, ◌∙◌, ap, arith}
use Rattle.std.proofs.lemmas.Result.{err_from_is_err_and}
use Rattle.term_lang.specs.Rows.{rows_of}
use Rattle.finite_sets.proofs.TableFaults.{list_first, own_first, law_first}
use Rattle.finite_sets.proofs.Building.{nothing_built, simplices_pushed, law-pushed, one_more, none_built, all-built, table_built}
use Rattle.finite_sets.proofs.tables.build_table.Goals as goal

pub returns-in-Some-clause-first : goal.returns-in-Some-clause-first
returns-in-Some-clause-first c = λ _. list_first c.args.rows.now c.in-Some.fault (sym c.list_fault.ensures ∙ c.in-Some.is)

pub loop-r-init : goal.loop-r-init
loop-r-init c = nothing_built c.args.rows.now c.new-built.result c.new-places.result (sym c.list_fault.ensures ∙ c.in_default.is) c.new-built.ensures c.new-places.ensures.empty

pub returns-in_err-row-clause-first : goal.returns-in_err-row-clause-first
returns-in_err-row-clause-first c =
    let p = err_from_is_err_and c.from_residual.result c.from_residual.ensures.1 in
    rw (p.1, p.2)
    (λ other. own_first c.args.rows.now c.loop-r.r _ (sym c.list_fault.ensures ∙ c.in_default.is) (omega arith) c.loop-r.invariant.faultless (c.in_err-row.ensures.err other))

pub law_fault-requires-clause-rows : goal.law_fault-requires-clause-rows
law_fault-requires-clause-rows c =
    simplices_pushed c.args.rows.now c.loop-r.r c.loop-r.built c.loop-r.places c.loop-r.invariant (omega arith) c.in_ok-row.ensures.none c.in_ok-row.row c.push.new.self
    c.in_ok-row.ensures.ok c.in_ok-push.ensures.ok

pub returns-in-Some-law_fault-clause-first : goal.returns-in-Some-law_fault-clause-first
returns-in-Some-law_fault-clause-first c = λ _.
    let same =
    law-pushed c.args.rows.now c.loop-r.r c.loop-r.built c.loop-r.places c.loop-r.invariant (omega arith) c.in_ok-row.ensures.none c.in_ok-row.row c.push.new.self
    c.in_ok-row.ensures.ok c.in_ok-push.ensures.ok in
    law_first c.args.rows.now c.loop-r.r c.in-Some-law_fault.fault (sym c.list_fault.ensures ∙ c.in_default.is) (omega arith) c.loop-r.invariant.faultless c.in_ok-row.ensures.none
    (sym same ∙ sym c.law_fault.ensures ∙ c.in-Some-law_fault.is)

pub loop-r-preserved : goal.loop-r-preserved
loop-r-preserved c =
    one_more c.args.rows.now c.loop-r.r c.loop-r.built c.loop-r.places c.loop-r.invariant (omega arith) c.in_ok-row.ensures.none c.in_ok-row.row c.push.new.self
    c.in_ok-row.ensures.ok c.in_ok-push.ensures.ok c.insert.new.self (sym c.law_fault.ensures ∙ c.in_default-law_fault.is) (λ name. c.in_ok-insert.ensures.updates.0 name)

pub table_of-requires : goal.table_of-requires
table_of-requires c = table_built c.args.rows.now c.loop-r.r c.loop-r.built c.loop-r.places c.loop-r.invariant (sym c.list_fault.ensures ∙ c.in_default.is) (omega arith)

pub returns-clause-table : goal.returns-clause-table
returns-clause-table c =
    ap rows_of c.in_ok-table_of.ensures ∙ all-built c.args.rows.now c.loop-r.r c.loop-r.built c.loop-r.places c.loop-r.invariant (omega arith)

pub returns-clause-none : goal.returns-clause-none
returns-clause-none c = none_built c.args.rows.now c.loop-r.r c.loop-r.built c.loop-r.places c.loop-r.invariant (sym c.list_fault.ensures ∙ c.in_default.is) (omega arith)
