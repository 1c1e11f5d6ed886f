use Rattle.values.proofs.bases.cycles_laws.Goals as goal
use Rattle.values.proofs.BasesCycles.{cycles-value, cycles-needs, cycles-given_back_at, cycles-outcome_at}
use Rattle.values.proofs.BasesRows.{cycles-needs_below}

pub returns : goal.returns
returns c = record {
  rule = cycles-value;
  needed = cycles-needs;
  below = cycles-needs_below;
  given_back = cycles-given_back_at;
  outcome_back = λ m p a n. cycles-outcome_at p a n m;
}
