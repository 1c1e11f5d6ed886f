use Rattle.values.proofs.BasesRows.{all-lower, all-given_back, all-outcomes, all-deeper, all-outcomes_deeper}
use Rattle.values.proofs.bases.below_laws.Goals as goal

pub returns : goal.returns
returns c = record {
  ranks = all-lower;
  values = all-given_back;
  outcomes = λ m p. all-outcomes p m;
  deeper = all-deeper;
  outcome_deeper = λ m p. all-outcomes_deeper p m;
}
