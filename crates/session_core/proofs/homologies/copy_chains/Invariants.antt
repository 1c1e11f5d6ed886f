use Rattle.std.proofs.Common.{◌≡◌, take}
use Rattle.session_core.proofs.homologies.copy_chains.Given as goal

abbrev pub invariant-loop-chain : goal.invariant-loop-chain
invariant-loop-chain l = l.copy ≡ take l.chain-index l.chain-items
