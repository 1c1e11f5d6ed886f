use Rattle.std.proofs.Common.{◌≡◌, take}
use Rattle.values.specs.Sizes.{greatest}
use Rattle.oracle_iface.specs.CodeSizes.{small_cell_letters, small_cell_integer}
use Rattle.oracle_iface.proofs.sizes.cells_size.Given as goal

abbrev pub invariant-loop-y : goal.invariant-loop-y
invariant-loop-y l = (l.letters ≡ greatest small_cell_letters (take l.y-index l.cells)) × (l.integer ≡ greatest small_cell_integer (take l.y-index l.cells))
