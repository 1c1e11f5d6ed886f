use Rattle.std.proofs.Common.{◌≡◌, ◌++◌, ◌<◌, All, length, take, drop}
use Rattle.fp_field.specs.Field.{number}
use Rattle.chain_core.specs.Formal.{numbers}
use Rattle.chain_core.proofs.Multiples.{products}
use Rattle.chain_core.proofs.sums.multiply.Given as goal

abbrev pub invariant-loop-i : goal.invariant-loop-i
invariant-loop-i g l = record {
  same_length : length l.terms.items ≡ length l.initial.terms.items;
  elements : All (λ t. t.1.value < number l.p) l.terms.items;
  multiplied : numbers l.terms.items ≡ products (number l.p) l.c.value (take l.i (numbers l.initial.terms.items)) ++ drop l.i (numbers l.initial.terms.items);
}
