use Rattle.std.proofs.Common.{◌≡◌, ◌++◌, ◌-◌, All}
use Rattle.chain_core.specs.Formal.{numbers}
use Rattle.kz1_rules.specs.Lists.{ones, terms_beyond}
use Rattle.kz1_rules.proofs.homotopy.terms_after_one.Given as goal

abbrev pub invariant-loop-i : goal.invariant-loop-i
invariant-loop-i l = record {
  terms : numbers l.terms.items ++ terms_beyond l.rest l.coefficient.value (ones l.is_negative (l.count - l.i)) ≡ terms_beyond l.rest l.coefficient.value (ones l.is_negative l.count);
  coefficients : All (λ t. t.1.value ≡ l.coefficient.value) l.terms.items;
}
