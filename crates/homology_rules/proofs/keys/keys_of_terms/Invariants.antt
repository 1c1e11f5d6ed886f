use Rattle.std.proofs.Common.{◌≡◌, map, take}
use Rattle.homology_rules.specs.SmallKeys.{small_key_of}
use Rattle.homology_rules.proofs.keys.keys_of_terms.Given as goal

abbrev pub invariant-loop-y : goal.invariant-loop-y
invariant-loop-y l = l.keys.items ≡ map (λ t. small_key_of l.key l.op t.0) (take l.y-index l.terms)
