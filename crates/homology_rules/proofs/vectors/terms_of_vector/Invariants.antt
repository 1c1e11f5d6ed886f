use Rattle.std.proofs.Common.{◌≡◌, ◌<◌, All, take}
use Rattle.fp_field.specs.Field.{number}
use Rattle.chain_core.specs.Formal.{numbers}
use Rattle.homology_rules.proofs.Picking.{picks}
use Rattle.homology_rules.proofs.vectors.terms_of_vector.Given as goal

abbrev pub invariant-loop-place : goal.invariant-loop-place
invariant-loop-place l = record {
  terms : numbers l.terms.items ≡ picks 0 l.cells (numbers (take l.place-index l.entries));
  elements : All (λ t. t.1.value < number l.vector.prime) l.terms.items;
}
