use Rattle.std.proofs.Common.{◌-◌, ◌≡◌, ◌≤◌, ℤ, List}
use Rattle.spaces.specs.Nerves.{integers}
use Rattle.spaces.specs.Cocycles.{face_times}
use Rattle.spaces.specs.Spaces.{table}
use Rattle.term_lang.specs.Belongs.{IsSimplex}
use Rattle.term_lang.specs.Forms.{form}
use Rattle.term_lang.specs.Rows.{rows_of}
use Rattle.twist_maps.proofs.twists.first_triangle.Given as goal

abbrev pub invariant-loop-i : goal.invariant-loop-i
invariant-loop-i l = let t = rows_of l.base in
    (2 ≤ l.i) × (l.i ≤ 32) × IsSimplex (table t) l.i l.x
    × ((c : List ℤ) → face_times integers t c (l.i - 2) 2 (form l.x (table t)) ≡ face_times integers t c (l.j - 2) 2 (form l.fn.b (table t)))

abbrev pub decreases-loop-i : goal.decreases-loop-i
decreases-loop-i l = l.i - 2
