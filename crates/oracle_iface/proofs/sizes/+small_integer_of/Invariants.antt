use Rattle.std.proofs.Common.{◌≡◌, take}
use Rattle.values.specs.Sizes.{greatest}
use Rattle.oracle_iface.specs.CodeSizes.{small_cell_integer}
use Rattle.oracle_iface.proofs.sizes.+small_integer_of.Given as goal

abbrev pub invariant-loop-letter : goal.invariant-loop-letter
invariant-loop-letter l = l.most ≡ greatest small_cell_integer (take l.letter-index l.letter-items)
