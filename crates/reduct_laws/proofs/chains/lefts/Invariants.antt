use Rattle.std.proofs.Common.{◌≡◌, ℕ, ◌+◌, ◌<◌, All, vec_len}
use Rattle.fp_field.specs.Field.{number}
use Rattle.fp_field.specs.Chains.{weigh}
use Rattle.chain_core.specs.Formal.{numbers}
use Rattle.reduct_laws.specs.declared.sides.Side.TheVariants.{Left}
use Rattle.reduct_laws.specs.Sides.{relabel}
use Rattle.reduct_laws.proofs.chains.lefts.Given as goal

abbrev pub invariant-loop-key : goal.invariant-loop-key
invariant-loop-key g l = record {
  left : All (λ t. t.1.value < number l.p) l.left.items;
  pushed : All (λ t. t.1.value < number l.p) l.terms.items;
  sum : (w : _ → ℕ) → weigh w (numbers l.terms.items) + weigh w (relabel Left (numbers l.left.items)) ≡ weigh w (relabel Left (numbers l.initial.left.items));
}

abbrev pub decreases-loop-key : goal.decreases-loop-key
decreases-loop-key g l = vec_len l.left
