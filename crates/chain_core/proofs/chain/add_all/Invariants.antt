use Rattle.std.proofs.Common.{◌≡◌, ◌++◌, ◌<◌, All, vec_len}
use Rattle.fp_field.specs.Field.{number}
use Rattle.fp_field.specs.Normal.{normal, IsNormal}
use Rattle.chain_core.specs.Formal.{numbers}
use Rattle.chain_core.proofs.Merging.{merged}
use Rattle.chain_core.proofs.chain.add_all.Given as goal

abbrev pub invariant-loop-k : goal.invariant-loop-k
invariant-loop-k g l = record {
  prime : l.sum.prime ≡ l.initial.sum.prime;
  elements : All (λ t. t.1.value < number l.initial.sum.prime) l.terms.items;
  reduced : IsNormal g.K.Ord.cmp (number l.initial.sum.prime) l.sum.terms;
  total : merged g.K.Ord.cmp (number l.initial.sum.prime) (numbers l.terms.items) l.sum.terms ≡ normal g.K.Ord.cmp (number l.initial.sum.prime) (numbers l.initial.terms.items ++ l.initial.sum.terms);
}

abbrev pub decreases-loop-k : goal.decreases-loop-k
decreases-loop-k g l = vec_len l.terms
