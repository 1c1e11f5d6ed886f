use Rattle.std.proofs.Common.{◌≡◌, map, take}
use Rattle.homology_rules.specs.SmallKeys.{small_key_of}
use Rattle.homology_rules.proofs.keys.small_keys.Given as goal

abbrev pub invariant-loop-y : goal.invariant-loop-y
invariant-loop-y l = l.keys.items ≡ map (λ y. small_key_of l.key l.op y) (take l.y-index l.cells)
