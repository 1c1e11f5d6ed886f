use Rattle.std.proofs.Common.{◌≡◌, map, take}
use Rattle.spaces.specs.Nerves.{integers}
use Rattle.kz1_group.proofs.groups.ints_inv.Given as goal

abbrev pub invariant-loop-a : goal.invariant-loop-a
invariant-loop-a l = l.inverse ≡ map integers.negative (take l.a-index l.a-items)
