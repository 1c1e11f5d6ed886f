use Rattle.std.proofs.Common.{sym, ◌∙◌, arith}
use Rattle.term_lang.specs.Rows.{rows_of}
use Rattle.finite_sets.proofs.RowLaws.{none_until, found_at, none_at}
use Rattle.finite_sets.proofs.laws.law_fault_at.Goals as goal

pub loop-j-init : goal.loop-j-init
loop-j-init c = none_until (rows_of c.args.rows.now) c.args.r c.args.i

pub returns-then-not-is_law : goal.returns-then-not-is_law
returns-then-not-is_law c =
    sym (found_at (rows_of c.args.rows.now) c.args.r c.args.i c.loop-j.j (omega arith) c.loop-j.invariant (sym c.is_law.ensures ∙ c.if-not-is_law.true))

pub returns : goal.returns
returns c = sym (none_at (rows_of c.args.rows.now) c.args.r c.args.i c.loop-j.j (omega arith) c.loop-j.invariant)
