use Rattle.std.proofs.Common.{◌≡◌, ◌<◌, ◌-◌, ℕ, All, length}
use Rattle.fp_field.specs.Field.{number, minus}
use Rattle.echelons.specs.Echelon.{at_place}
use Rattle.elim_fp.specs.Rows.{numbers_of}
use Rattle.session_core.proofs.thrifty.turned.Given as goal

abbrev pub invariant-loop-i : goal.invariant-loop-i
invariant-loop-i l = record {
  count : length l.values.items ≡ l.i;
  below : All (λ a. a.value < number l.p) l.values.items;
  entries : (k : ℕ) → k < l.i → at_place (numbers_of l.values.items) k ≡ minus (number l.p) (at_place l.row.values (l.count - k));
}
