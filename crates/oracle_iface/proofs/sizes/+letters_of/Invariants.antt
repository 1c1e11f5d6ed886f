use Rattle.std.proofs.Common.{◌≡◌, length, max, take}
use Rattle.values.specs.Sizes.{greatest}
use Rattle.oracle_iface.specs.CodeSizes.{cell_letters}
use Rattle.oracle_iface.proofs.sizes.+letters_of.Given as goal

abbrev pub invariant-loop-letter : goal.invariant-loop-letter
invariant-loop-letter l = l.most ≡ max (length l.letter-items) (greatest (λ x. cell_letters x.simplex.cell) (take l.letter-index l.letter-items))
