use Rattle.std.proofs.Common.{ℕ, ◌+◌, ◌*◌, ◌<◌, ◌≤◌, All, length, take}
use Rattle.fp_field.specs.Field.{number, SameMod}
use Rattle.fp_field.specs.Chains.{weigh}
use Rattle.chain_core.specs.Formal.{numbers}
use Rattle.tensor_red.proofs.products.push_row.Given as goal

abbrev pub invariant-loop-i : goal.invariant-loop-i
invariant-loop-i g l = record {
  bound : l.i ≤ length l.right.terms;
  pushed : All (λ t. t.1.value < number l.p) l.terms.items;
  sum : (w : _ → ℕ) → SameMod (number l.p) (weigh w (numbers l.terms.items) + l.factor.value * weigh (λ y. w (record { left = l.key; right = y })) (take l.i l.right.terms))
      (weigh w (numbers l.initial.terms.items) + l.factor.value * weigh (λ y. w (record { left = l.key; right = y })) (take l.initial.i l.right.terms));
}

abbrev pub decreases-loop-i : goal.decreases-loop-i
decreases-loop-i g l = l.i
