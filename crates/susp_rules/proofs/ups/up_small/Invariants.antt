use Rattle.std.proofs.Common.{◌≡◌, take}
use Rattle.fp_field.specs.Field.{number}
use Rattle.fp_field.specs.Normal.{normal}
use Rattle.chain_core.specs.Formal.{numbers}
use Rattle.cells.specs.Small.{small_cmp}
use Rattle.susp_rules.specs.Bodies.{smalls_up}
use Rattle.susp_rules.proofs.ups.up_small.Given as goal

abbrev pub invariant-loop-y : goal.invariant-loop-y
invariant-loop-y l = record {
  prime : l.raised.prime ≡ l.chain.prime;
  terms : l.raised.terms ≡ normal small_cmp (number l.chain.prime) (smalls_up (numbers (take l.y-index l.y-items)));
}
