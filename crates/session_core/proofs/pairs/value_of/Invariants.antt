use Rattle.std.proofs.Common.{◌≡◌, drop}
use Rattle.session_core.specs.Bundles.{value_of}
use Rattle.session_core.proofs.pairs.value_of.Given as goal

abbrev pub invariant-loop-pair : goal.invariant-loop-pair
invariant-loop-pair l = value_of (drop l.pair-index l.pairs) l.name ≡ value_of l.pairs l.name
