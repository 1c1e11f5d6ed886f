use Rattle.std.proofs.Common.{◌≡◌, ℕ, take}
use Rattle.fp_field.specs.Field.{number, SameMod}
use Rattle.echelons.specs.Echelon.{at_place}
use Rattle.elim_fp.specs.Rows.{numbers_of}
use Rattle.elim_fp.proofs.Dense.{at}
use Rattle.elim_fp.proofs.rows.row_of.Given as goal

abbrev pub invariant-loop-place : goal.invariant-loop-place
invariant-loop-place l = record {
  prime : l.entries.prime ≡ l.fn.p;
  sum : (j : ℕ) → SameMod (number l.fn.p) (at l.entries.terms j) (at_place (take l.place (numbers_of l.values)) j);
}
