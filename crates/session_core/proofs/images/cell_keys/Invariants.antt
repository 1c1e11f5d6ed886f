use Rattle.std.proofs.Common.{◌≡◌, map, take}
use Rattle.homology_rules.specs.CellKeys.{cell_key_of}
use Rattle.session_core.proofs.images.cell_keys.Given as goal

abbrev pub invariant-loop-x : goal.invariant-loop-x
invariant-loop-x l = l.keys.items ≡ map (λ t. cell_key_of l.key l.op t.0) (take l.x-index l.terms)
