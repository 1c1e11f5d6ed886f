use Rattle.std.proofs.Common.{◌≡◌, drop}
use Rattle.std.specs.List.{list_any}
use Rattle.session_core.specs.Bundles.{is_for}
use Rattle.session_core.proofs.pairs.is_named.Given as goal

abbrev pub invariant-loop-pair : goal.invariant-loop-pair
invariant-loop-pair l = list_any (is_for l.name) (drop l.pair-index l.pairs) ≡ list_any (is_for l.name) l.pairs
