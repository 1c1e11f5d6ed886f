use Rattle.std.proofs.Common.{◌<◌, ◌∙◌, sym, ap, subst, length, arith, Some}
use Rattle.std.proofs.lemmas.List.{length-map}
use Rattle.term_lang.specs.declared.faults.TermFault.TheVariants.{BadCocycle}
use Rattle.term_lang.specs.Rows.{row_of, rows_of}
use Rattle.term_lang.proofs.CocycleRows.{bad_fault, long_fault, no_fault}
use Rattle.term_lang.proofs.check.check_values.Goals as goal

pub returns-then-is_bad-clause-fault : goal.returns-then-is_bad-clause-fault
returns-then-is_bad-clause-fault c =
    let e = c.len-rows.ensures ∙ ap length c.rows.ensures.rows ∙ sym (length-map c.args.base.now row_of) in
    bad_fault (rows_of c.args.base.now) c.args.values.now c.loop-r.r (subst (λ n. c.loop-r.r < n) e c.loop-r-test.true) c.loop-r.invariant (sym c.is_bad.ensures ∙ c.if-is_bad.true)

pub returns-then-len-rows-clause-fault : goal.returns-then-len-rows-clause-fault
returns-then-len-rows-clause-fault c =
    let e = c.len-rows.ensures ∙ ap length c.rows.ensures.rows ∙ sym (length-map c.args.base.now row_of) in
    ap (λ n. Some (BadCocycle n)) e
    ∙ long_fault (rows_of c.args.base.now) c.args.values.now (λ k l. c.loop-r.invariant k (omega (arith, l, e, c.loop-r-test.false))) (omega (arith, e, c.len.ensures, c.if-len-rows.true))

pub returns-clause-fault : goal.returns-clause-fault
returns-clause-fault c =
    let e = c.len-rows.ensures ∙ ap length c.rows.ensures.rows ∙ sym (length-map c.args.base.now row_of) in
    no_fault (rows_of c.args.base.now) c.args.values.now (λ k l. c.loop-r.invariant k (omega (arith, l, e, c.loop-r-test.false))) (omega (arith, e, c.len.ensures, c.if-len-rows.false))
