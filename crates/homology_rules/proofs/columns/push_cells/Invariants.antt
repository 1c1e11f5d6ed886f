use Rattle.std.proofs.Common.{◌≡◌, ◌++◌, map, take}
use Rattle.homology_rules.proofs.columns.push_cells.Given as goal

abbrev pub invariant-loop-y : goal.invariant-loop-y
invariant-loop-y l = l.cells.items ≡ l.initial.cells.items ++ map (λ t. t.0) (take l.y-index l.y-items)
