use Rattle.finite_sets.specs.Progress.{IsBuilt}
use Rattle.finite_sets.proofs.tables.build_table.Given as goal

abbrev pub invariant-loop-r : goal.invariant-loop-r
invariant-loop-r l = IsBuilt l.rows l.r l.built l.places
