use Rattle.std.proofs.Common.{sym, subst}
use Rattle.oracle_iface.specs.Stands.{IsOutcome}
use Rattle.oracle_iface.specs.declared.bodies.Body.TheVariants.{Cells}
use Rattle.oracle_iface.specs.declared.bodies.Outcome.TheVariants.{Value}
use Rattle.memo_book.specs.Worked.{sphere_key}
use Rattle.memo_book.proofs.Worked.{no_cells}
use Rattle.memo_tests.proofs.keys.empty_cell.Goals as goal

pub invariant_of-new : goal.invariant_of-new
invariant_of-new c = record {
  right = subst (λ k. IsOutcome k (Value (Cells c.new_seq.result))) (sym c.in_ok-key.ensures)
      (subst (λ ys. IsOutcome (sphere_key 5) (Value (Cells ys))) (sym c.new_seq.ensures) no_cells);
}
