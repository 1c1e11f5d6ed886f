use Rattle.std.proofs.Common.{◌-◌, ◌≡◌, ◌≤◌, ℤ, List}
use Rattle.spaces.specs.Nerves.{integers}
use Rattle.spaces.specs.Cocycles.{first_vertices}
use Rattle.spaces.specs.Spaces.{table}
use Rattle.term_lang.specs.Belongs.{IsSimplex}
use Rattle.term_lang.specs.Forms.{form}
use Rattle.term_lang.specs.Rows.{rows_of}
use Rattle.twist_maps.proofs.twists.front_of.Given as goal

abbrev pub invariant-loop-i : goal.invariant-loop-i
invariant-loop-i l = let t = rows_of l.base in
    (l.j ≤ l.i) × (l.i ≤ 32) × IsSimplex (table t) l.i l.x
    × ((c : List ℤ) → first_vertices integers t c l.j (l.i - l.j) (form l.x (table t)) ≡ first_vertices integers t c l.j (l.n - l.j) (form l.fn.b (table t)))

abbrev pub decreases-loop-i : goal.decreases-loop-i
decreases-loop-i l = l.i - l.j
