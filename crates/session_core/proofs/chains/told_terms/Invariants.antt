use Rattle.std.proofs.Common.{◌<◌, All}
use Rattle.fp_field.specs.Field.{number}
use Rattle.session_core.proofs.ToldTerms.{SoFar}
use Rattle.session_core.proofs.chains.told_terms.Given as goal

abbrev pub invariant-loop-i : goal.invariant-loop-i
invariant-loop-i l = record {
  elements : All (λ t. t.1.value < number l.p) l.terms.items;
  so_far : SoFar l.p l.t l.n l.texts l.i l.terms.items;
}
