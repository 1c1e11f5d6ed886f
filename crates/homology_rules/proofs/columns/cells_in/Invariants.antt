use Rattle.std.proofs.Common.{◌≡◌, take}
use Rattle.homology_rules.specs.CycleVectors.{small_chains}
use Rattle.homology_rules.proofs.ColumnSteps.{keys_in}
use Rattle.homology_rules.proofs.columns.cells_in.Given as goal

abbrev pub invariant-loop-chain : goal.invariant-loop-chain
invariant-loop-chain l = l.cells.items ≡ keys_in (small_chains (take l.chain-index l.chains))
