use Rattle.std.proofs.Common.{◌≡◌, take}
use Rattle.cells.proofs.copies.+small_copies.Given as goal

abbrev pub invariant-copy_small_letters-loop-letter : goal.invariant-copy_small_letters-loop-letter
invariant-copy_small_letters-loop-letter l = l.copy ≡ take l.letter-index l.letter-items
