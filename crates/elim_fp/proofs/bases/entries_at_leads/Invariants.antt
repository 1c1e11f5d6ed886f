use Rattle.std.proofs.Common.{◌≡◌, ◌<◌, All, take}
use Rattle.fp_field.specs.Field.{number}
use Rattle.echelons.specs.Echelon.{coordinates}
use Rattle.elim_fp.specs.Rows.{vectors_of, numbers_of}
use Rattle.elim_fp.proofs.bases.entries_at_leads.Given as goal

abbrev pub invariant-loop-row : goal.invariant-loop-row
invariant-loop-row l = record {
  values : numbers_of l.values.items ≡ coordinates (take l.row-index (vectors_of l.basis)) l.v.values;
  below : All (λ a. a.value < number l.v.prime) l.values.items;
}
