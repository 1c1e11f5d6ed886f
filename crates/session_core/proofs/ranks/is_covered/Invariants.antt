use Rattle.std.proofs.Common.{take}
use Rattle.homology_rules.specs.CycleVectors.{small_chains, AreCovered}
use Rattle.session_core.proofs.ranks.is_covered.Given as goal

abbrev pub invariant-loop-chain : goal.invariant-loop-chain
invariant-loop-chain l = AreCovered l.cells (small_chains (take l.chain-index l.chains))
