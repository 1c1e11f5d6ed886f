use Rattle.std.proofs.Common.{◌≡◌, ◌<◌, ◌++◌, All, take}
use Rattle.fp_field.specs.Field.{number}
use Rattle.chain_core.specs.Formal.{numbers}
use Rattle.ez_laws.specs.Sides.{on_keys}
use Rattle.fibred_asks.specs.Transferred.{with_left}
use Rattle.fibred_asks.proofs.small_sums.push_with_left.Given as goal

abbrev pub invariant-loop-key : goal.invariant-loop-key
invariant-loop-key l = record {
  elements : All (λ t. t.1.value < number l.chain.prime) l.pairs.items;
  pairs : numbers l.pairs.items ≡ numbers l.initial.pairs.items ++ on_keys (with_left l.y) (numbers (take l.key-index l.key-items));
}
