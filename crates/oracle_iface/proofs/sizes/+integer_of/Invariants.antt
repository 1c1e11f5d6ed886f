use Rattle.std.proofs.Common.{◌≡◌, take}
use Rattle.std.specs.Prelude.{nat_abs}
use Rattle.values.specs.Sizes.{greatest}
use Rattle.oracle_iface.specs.CodeSizes.{cell_integer}
use Rattle.oracle_iface.proofs.sizes.+integer_of.Given as goal

abbrev pub invariant-loop-k : goal.invariant-loop-k
invariant-loop-k l = l.most ≡ greatest nat_abs (take l.k-index l.k-items)

abbrev pub invariant-loop-letter : goal.invariant-loop-letter
invariant-loop-letter l = l.most ≡ greatest (λ x. cell_integer x.simplex.cell) (take l.letter-index l.letter-items)
