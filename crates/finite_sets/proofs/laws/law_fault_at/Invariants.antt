use Rattle.std.proofs.Common.{◌≡◌, None}
use Rattle.term_lang.specs.Rows.{rows_of}
use Rattle.finite_sets.specs.declared.faults.TableFault.TheVariants.{FaceLaw}
use Rattle.finite_sets.specs.Faults.{first_below, unless, is_law}
use Rattle.finite_sets.proofs.laws.law_fault_at.Given as goal

abbrev pub invariant-loop-j : goal.invariant-loop-j
invariant-loop-j l = first_below l.j (λ j. unless (is_law (rows_of l.rows) l.r l.i j) (FaceLaw l.r l.i j)) ≡ None
