use Rattle.values.proofs.BasesRows.{simple-given_back, simple-outcome_back, simple-deeper, simple-outcome_deeper, simple-needs_below}
use Rattle.values.proofs.bases.simple_space_laws.Goals as goal

pub returns : goal.returns
returns c = record {
  given_back = simple-given_back;
  outcome_back = simple-outcome_back;
  deeper = simple-deeper;
  outcome_deeper = λ m p. simple-outcome_deeper p m;
  below = simple-needs_below;
}
