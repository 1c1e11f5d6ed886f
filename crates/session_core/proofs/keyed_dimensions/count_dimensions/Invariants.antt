use Rattle.std.proofs.Common.{◌≡◌, ◌+◌, ◌-◌, ◌++◌, suc, length}
use Rattle.std.specs.Prelude.{IfSome}
use Rattle.fp_field.specs.Field.{number}
use Rattle.cells.specs.Small.{small_cmp}
use Rattle.homology_rules.specs.Degrees.{cells_at, chains_at}
use Rattle.session_core.specs.Dimensions.{nullity_over, dimensions_at}
use Rattle.session_core.proofs.DimensionSteps.{Walked}
use Rattle.session_core.proofs.keyed_dimensions.count_dimensions.Given as goal

abbrev pub invariant-loop-n : goal.invariant-loop-n
invariant-loop-n g l = record {
  walked : Walked g.F.Forcer.may_force g.F.Forcer.forces l.key l.low (suc l.high) l.n l.initial.forcer l.forcer;
  numbers : dimensions_at l.key l.low (suc l.high - l.low) ≡ l.numbers ++ dimensions_at l.key l.n (suc l.high - l.n);
  known : IfSome l.known (λ m. m ≡ nullity_over small_cmp (number l.key.prime) (length (cells_at l.key l.n)) (chains_at l.key (cells_at l.key l.n)));
}

abbrev pub decreases-loop-n : goal.decreases-loop-n
decreases-loop-n g l = l.high + 1 - l.n
