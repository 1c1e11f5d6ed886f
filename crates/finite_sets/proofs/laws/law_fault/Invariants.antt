use Rattle.std.proofs.Common.{◌≡◌, None}
use Rattle.term_lang.specs.Rows.{rows_of}
use Rattle.finite_sets.specs.Faults.{first_below, law_fault_at}
use Rattle.finite_sets.proofs.laws.law_fault.Given as goal

abbrev pub invariant-loop-i : goal.invariant-loop-i
invariant-loop-i l = first_below l.i (law_fault_at (rows_of l.rows) l.r) ≡ None
