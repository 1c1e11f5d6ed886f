use Rattle.std.proofs.Common.{◌≡◌, take}
use Rattle.values.specs.Sizes.{greatest}
use Rattle.oracle_iface.specs.CodeSizes.{cell_letters, cell_integer}
use Rattle.oracle_iface.proofs.sizes.chain_size.Given as goal

abbrev pub invariant-loop-x : goal.invariant-loop-x
invariant-loop-x l = (l.letters ≡ greatest (λ t. cell_letters t.0) (take l.x-index l.terms)) × (l.integer ≡ greatest (λ t. cell_integer t.0) (take l.x-index l.terms))
