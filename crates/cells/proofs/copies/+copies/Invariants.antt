use Rattle.std.proofs.Common.{◌≡◌, take}
use Rattle.cells.proofs.copies.+copies.Given as goal

abbrev pub invariant-copy_letters-loop-letter : goal.invariant-copy_letters-loop-letter
invariant-copy_letters-loop-letter l = l.copy ≡ take l.letter-index l.letter-items
