use Rattle.std.proofs.Common.{◌≡◌, take}
use Rattle.values.specs.Sizes.{greatest}
use Rattle.oracle_iface.specs.CodeSizes.{small_cell_letters, small_cell_integer}
use Rattle.oracle_iface.proofs.sizes.small_chain_size.Given as goal

abbrev pub invariant-loop-y : goal.invariant-loop-y
invariant-loop-y l =
    (l.letters ≡ greatest (λ t. small_cell_letters t.0) (take l.y-index l.terms)) × (l.integer ≡ greatest (λ t. small_cell_integer t.0) (take l.y-index l.terms))
