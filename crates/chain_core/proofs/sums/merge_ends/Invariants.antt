use Rattle.std.proofs.Common.{◌+◌, ◌++◌, ◌≤◌, length, take, reverse, vec_len}
use Rattle.fp_field.specs.Field.{number}
use Rattle.fp_field.specs.Chains.{scale}
use Rattle.fp_field.specs.Normal.{normal}
use Rattle.chain_core.specs.Formal.{numbers}
use Rattle.chain_core.proofs.Merging.{Merges}
use Rattle.chain_core.proofs.sums.merge_ends.Given as goal

abbrev pub invariant-loop-left : goal.invariant-loop-left
invariant-loop-left g l = record {
  within : l.left ≤ length l.others;
  merges : Merges g.K.Ord.cmp (number l.p) l.c.value (numbers l.terms.items) (take l.left (numbers l.others)) (numbers (reverse l.ends.items))
      (normal g.K.Ord.cmp (number l.p) (scale l.c.value (numbers l.others) ++ numbers l.initial.terms.items));
}

abbrev pub decreases-loop-left : goal.decreases-loop-left
decreases-loop-left g l = l.left + vec_len l.terms
