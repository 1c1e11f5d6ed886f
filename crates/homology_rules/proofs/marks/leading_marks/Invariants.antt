use Rattle.std.proofs.Common.{◌≡◌, length, drop}
use Rattle.elim_fp.specs.Rows.{vectors_of}
use Rattle.homology_rules.specs.CycleVectors.{marked_by}
use Rattle.homology_rules.proofs.marks.leading_marks.Given as goal

abbrev pub invariant-loop-row : goal.invariant-loop-row
invariant-loop-row l = record {
  wide : length l.marks.items ≡ l.width;
  marks : marked_by l.marks.items (vectors_of (drop l.row-index l.rows)) ≡ marked_by l.initial.marks.items (vectors_of l.rows);
}
