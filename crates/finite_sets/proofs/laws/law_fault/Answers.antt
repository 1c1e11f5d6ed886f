use Rattle.std.proofs.Common.{◌≡◌, sym, ◌∙◌, ap, arith}
use Rattle.std.proofs.lemmas.List.{length-map}
use Rattle.spaces.specs.Tables.{Row as TableRow, row_at}
use Rattle.term_lang.specs.Rows.{rows_of, row_of}
use Rattle.finite_sets.proofs.Entries.{got, row_got}
use Rattle.finite_sets.proofs.RowLaws.{law_low, law_found, law_none}
use Rattle.finite_sets.proofs.laws.law_fault.Goals.{After-unwrap}
use Rattle.finite_sets.proofs.laws.law_fault.Goals as goal

dim-is : (c : After-unwrap) → (row_at (rows_of c.args.rows.now) c.args.r).dim ≡ c.unwrap.result.now.dim
dim-is c =
    ap (λ (row : TableRow). row.dim)
    (row_got c.args.rows.now c.args.r c.unwrap.result.now (got c.get.result c.unwrap.result _ c.get.ensures.value c.unwrap.ensures))

pub returns-then-dim-lt2 : goal.returns-then-dim-lt2
returns-then-dim-lt2 c =
    let d = dim-is (goal.at.returns-then-dim-lt2 c).After-unwrap in sym (law_low (rows_of c.args.rows.now) c.args.r (omega (arith, d)))

pub overflow_add-i-end : goal.overflow_add-i-end
overflow_add-i-end c =
    let d = dim-is (goal.at.overflow_add-i-end c).After-unwrap in
    let l = length-map c.args.rows.now row_of in
    let low = c.requires.rows.low c.args.r (omega (arith, l)) in omega (arith, d, low)

pub law_fault_at-requires-clause-dim : goal.law_fault_at-requires-clause-dim
law_fault_at-requires-clause-dim c = dim-is (goal.at.law_fault_at-requires-clause-dim c).After-unwrap

pub returns-in-Some : goal.returns-in-Some
returns-in-Some c =
    let d = dim-is (goal.at.returns-in-Some c).After-unwrap in
    sym (law_found (rows_of c.args.rows.now) c.args.r c.loop-i.i c.in-Some.fault (omega (arith, d)) (omega (arith, d)) c.loop-i.invariant (sym c.law_fault_at.ensures ∙ c.in-Some.is))

pub returns : goal.returns
returns c =
    let d = dim-is (goal.at.returns c).After-unwrap in
    sym (law_none (rows_of c.args.rows.now) c.args.r c.loop-i.i (omega (arith, d)) (omega (arith, d)) c.loop-i.invariant)
