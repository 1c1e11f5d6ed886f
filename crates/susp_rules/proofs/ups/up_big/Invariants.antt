use Rattle.std.proofs.Common.{◌≡◌, take}
use Rattle.fp_field.specs.Field.{number}
use Rattle.fp_field.specs.Normal.{normal}
use Rattle.chain_core.specs.Formal.{numbers}
use Rattle.cells.specs.Order.{cell_cmp}
use Rattle.susp_rules.specs.Bodies.{cells_up}
use Rattle.susp_rules.proofs.ups.up_big.Given as goal

abbrev pub invariant-loop-x : goal.invariant-loop-x
invariant-loop-x l = record {
  prime : l.raised.prime ≡ l.chain.prime;
  terms : l.raised.terms ≡ normal cell_cmp (number l.chain.prime) (cells_up (numbers (take l.x-index l.x-items)));
}
