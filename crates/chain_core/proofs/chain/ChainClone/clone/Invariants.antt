use Rattle.std.proofs.Common.{◌≡◌, take}
use Rattle.chain_core.proofs.chain.ChainClone.clone.Given as goal

abbrev pub invariant-loop-k : goal.invariant-loop-k
invariant-loop-k g l = record {
  prime : l.copy.prime ≡ l.self.prime;
  copied : ((x y : _) → g.K.Clone.is_clone x y → y ≡ x) → l.copy.terms ≡ take l.k-index l.self.terms;
}
