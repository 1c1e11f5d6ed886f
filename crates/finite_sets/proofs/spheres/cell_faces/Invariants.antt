use Rattle.std.proofs.Common.{◌≡◌, ◌-◌, map}
use Rattle.spaces.specs.Tables.{copies, all_degeneracies}
use Rattle.term_lang.specs.Rows.{face_of}
use Rattle.finite_sets.proofs.spheres.cell_faces.Given as goal

abbrev pub invariant-loop-i : goal.invariant-loop-i
invariant-loop-i l = map face_of l.faces ≡ copies l._i (all_degeneracies (l.fn.n - 1), 0)
