use Rattle.std.proofs.Common.{◌≡◌, take, length}
use Rattle.values.specs.Sizes.{greatest}
use Rattle.oracle_iface.specs.CodeSizes.{terms_size}
use Rattle.oracle_iface.proofs.sizes.list_size.Given as goal

abbrev pub invariant-loop-chain : goal.invariant-loop-chain
invariant-loop-chain l =
    (l.most.letters ≡ greatest (λ c. (terms_size c.terms).letters) (take l.chain-index l.chain-items))
    × (l.most.integer ≡ greatest (λ c. (terms_size c.terms).integer) (take l.chain-index l.chain-items))
    × (l.most.terms ≡ greatest (λ c. length c.terms) (take l.chain-index l.chain-items))
