use Rattle.std.proofs.Common.{◌-◌, ◌≡◌, ◌≤◌, ℤ}
use Rattle.std.specs.Prelude.{All, nat_abs}
use Rattle.spaces.specs.Nerves.{integers}
use Rattle.spaces.specs.Cocycles.{at_vertex, differences}
use Rattle.spaces.specs.Spaces.{table}
use Rattle.term_lang.specs.Forms.{form}
use Rattle.term_lang.specs.Rows.{rows_of}
use Rattle.twist_maps.proofs.twists.cocycle_tau.Given as goal

abbrev pub invariant-loop-j : goal.invariant-loop-j
invariant-loop-j l = let t = rows_of l.base in let x = form l.b (table t) in
    (l.list ≡ differences integers t l.values l.n 1 (l.j - 2) x) × (l.before ≡ at_vertex integers t l.values l.n (l.j - 1) x)
    × (nat_abs l.before ≤ 100000) × All (λ a. nat_abs a ≤ 200000) l.list
