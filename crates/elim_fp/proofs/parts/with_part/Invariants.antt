use Rattle.std.proofs.Common.{◌≡◌, length}
use Rattle.fp_field.specs.Field.{number}
use Rattle.elim_fp.proofs.Entries.{Added}
use Rattle.elim_fp.proofs.parts.with_part.Given as goal

abbrev pub invariant-loop-place : goal.invariant-loop-place
invariant-loop-place l = record {
  prime : l.sum.prime ≡ l.fn.row.prime;
  wide : length l.sum.values ≡ length l.fn.row.values;
  entries : Added (number l.fn.row.prime) l.place-items l.width (length l.fn.row.values) l.fn.from l.fn.row.values l.place-index l.sum.values;
}
