use Rattle.std.proofs.Common.{◌≡◌, ◌↔◌, ◌-◌, ◌∷◌, length}
use Rattle.fp_field.specs.Field.{number}
use Rattle.echelons.specs.Echelon.{Vector, lead, IsCombination}
use Rattle.elim_fp.specs.Rows.{vectors_of, IsRow}
use Rattle.elim_fp.proofs.tables.lowered.Given as goal

abbrev pub invariant-loop-place : goal.invariant-loop-place
invariant-loop-place l = record {
  place_is : l.place ≡ lead l.rest.values;
  is_row : IsRow l.fn.p (length l.row.values) l.rest;
  span : (x : Vector) → IsCombination (number l.fn.p) (length l.row.values) (l.rest.values ∷ vectors_of l.table) x ↔ IsCombination (number l.fn.p) (length l.row.values) (l.row.values ∷ vectors_of l.table) x;
}

abbrev pub decreases-loop-place : goal.decreases-loop-place
decreases-loop-place l = length l.table - l.place
