use Rattle.std.proofs.Common.{◌≡◌, map, take, None}
use Rattle.term_lang.specs.Rows.{face_of}
use Rattle.finite_sets.specs.Meaning.{text_at, face_meant}
use Rattle.finite_sets.specs.Faults.{first_below, face_fault}
use Rattle.finite_sets.proofs.tables.read_faces.Given as goal

abbrev pub invariant-loop-i : goal.invariant-loop-i
invariant-loop-i l = record {
  none : first_below l.i (face_fault l.texts l.r) ≡ None;
  faces : map face_of l.faces ≡ map (face_meant l.texts) (take l.i (text_at l.texts l.r).faces);
}
