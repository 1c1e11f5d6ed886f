use Rattle.std.proofs.Common.{◌≡◌, ◌++◌, take}
use Rattle.library_tests.proofs.integer_tests.list.Given as goal

abbrev pub invariant-loop-a : goal.invariant-loop-a
invariant-loop-a l = l.list ≡ l.initial.list ++ take l.a-index l.items
