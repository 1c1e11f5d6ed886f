use Rattle.std.proofs.Common.{ℕ, ◌+◌, ◌*◌, ◌<◌, All, take}
use Rattle.fp_field.specs.Field.{number, SameMod}
use Rattle.fp_field.specs.Chains.{weigh}
use Rattle.cells.specs.declared.cells.SmallCell.{SmallCell}
use Rattle.cells.specs.declared.cells.SmallCell.TheVariants.{Pair}
use Rattle.chain_core.specs.Formal.{numbers}
use Rattle.fibred_asks.proofs.smalls.push_pairs_with.Given as goal

abbrev pub invariant-loop-z : goal.invariant-loop-z
invariant-loop-z l = record {
  elements : All (λ t. t.1.value < number l.p) l.terms.items;
  total : (w : SmallCell → ℕ) → SameMod (number l.p) (weigh w (numbers l.terms.items)) (weigh w (numbers l.initial.terms.items) + l.c.value * weigh (λ z. w (Pair l.y z)) (numbers (take l.z-index l.z-items)));
}
