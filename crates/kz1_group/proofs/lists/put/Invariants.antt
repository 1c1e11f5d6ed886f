use Rattle.std.proofs.Common.{◌≡◌, ◌++◌, take}
use Rattle.kz1_group.proofs.lists.put.Given as goal

abbrev pub invariant-loop-a : goal.invariant-loop-a
invariant-loop-a l = l.list ≡ l.initial.list ++ take l.a-index l.items
