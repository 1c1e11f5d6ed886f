use Rattle.std.proofs.Common.{ℕ, ◌+◌, ◌*◌, ◌<◌, All, take}
use Rattle.fp_field.specs.Field.{number, SameMod}
use Rattle.fp_field.specs.Chains.{weigh}
use Rattle.chain_core.specs.Formal.{numbers}
use Rattle.part_asks.proofs.sums.push_scaled.Given as goal

abbrev pub invariant-loop-key : goal.invariant-loop-key
invariant-loop-key g l = record {
  elements : All (λ t. t.1.value < number l.p) l.sum.items;
  total : (w : _ → ℕ) → SameMod (number l.p) (weigh w (numbers l.sum.items)) (weigh w (numbers l.initial.sum.items) + l.c.value * weigh w (numbers (take l.key-index l.key-items)));
}
