use Rattle.std.proofs.Common.{ℕ, ◌+◌, ◌*◌, ◌<◌, All, vec_len}
use Rattle.fp_field.specs.Field.{number, SameMod}
use Rattle.fp_field.specs.Chains.{weigh}
use Rattle.chain_core.specs.Formal.{numbers}
use Rattle.chain_core.proofs.maps.push_scaled.Given as goal

abbrev pub invariant-loop-key : goal.invariant-loop-key
invariant-loop-key g l = record {
  left : All (λ t. t.1.value < number l.p) l.left.items;
  pushed : All (λ t. t.1.value < number l.p) l.terms.items;
  sum : (w : _ → ℕ) → SameMod (number l.p) (weigh w (numbers l.terms.items) + l.c.value * weigh w (numbers l.left.items))
      (weigh w (numbers l.initial.terms.items) + l.c.value * weigh w (numbers l.initial.left.items));
}

abbrev pub decreases-loop-key : goal.decreases-loop-key
decreases-loop-key g l = vec_len l.left
