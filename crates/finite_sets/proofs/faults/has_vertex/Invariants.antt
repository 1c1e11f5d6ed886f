use Rattle.std.proofs.Common.{◌≡◌, take, false}
use Rattle.std.specs.List.{list_any}
use Rattle.finite_sets.specs.Faults.{is_vertex}
use Rattle.finite_sets.proofs.faults.has_vertex.Given as goal

abbrev pub invariant-loop-r : goal.invariant-loop-r
invariant-loop-r l = list_any is_vertex (take l.r l.rows) ≡ false
