use Rattle.std.proofs.Common.{ℕ, ◌<◌, All, map, take}
use Rattle.cells.specs.declared.cells.SmallCell.{SmallCell}
use Rattle.fp_field.specs.Field.{number, SameMod}
use Rattle.fp_field.specs.Chains.{weigh, combination}
use Rattle.chain_core.specs.Formal.{numbers}
use Rattle.homology_rules.specs.Held.{small_in}
use Rattle.homology_rules.proofs.sums.small_sum_of.Given as goal

abbrev pub invariant-loop-i : goal.invariant-loop-i
invariant-loop-i g l = record {
  elements : All (λ t. t.1.value < number l.p) l.sum.items;
  total : (w : SmallCell → ℕ) → SameMod (number l.p) (weigh w (numbers l.sum.items))
      (weigh w (combination (map (λ t. t.1.value) (take l.i l.terms)) (map (λ v. (small_in v.outcome).terms) (take l.i l.cells))));
}
