use Rattle.std.proofs.Common.{◌≡◌, take}
use Rattle.spaces.specs.Nerves.{integers, nerve_times}
use Rattle.kz1_group.proofs.groups.ints_mul.Given as goal

abbrev pub invariant-loop-i : goal.invariant-loop-i
invariant-loop-i l = l.product ≡ nerve_times integers (take l.i l.left) (take l.i l.right)
