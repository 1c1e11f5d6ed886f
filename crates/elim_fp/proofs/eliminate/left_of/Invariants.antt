use Rattle.std.proofs.Common.{◌≡◌, ◌≤◌, length, drop}
use Rattle.fp_field.specs.Field.{number}
use Rattle.echelons.specs.Echelon.{remainder}
use Rattle.elim_fp.specs.Rows.{vectors_of}
use Rattle.elim_fp.proofs.eliminate.left_of.Given as goal

abbrev pub invariant-loop-left : goal.invariant-loop-left
invariant-loop-left l = record {
  within : l.left ≤ length l.basis;
  prime : l.rest.prime ≡ l.v.prime;
  wide : length l.rest.values ≡ length l.v.values;
  values : l.rest.values ≡ remainder (number l.v.prime) (length l.v.values) (drop l.left (vectors_of l.basis)) l.v.values;
}

abbrev pub decreases-loop-left : goal.decreases-loop-left
decreases-loop-left l = l.left
