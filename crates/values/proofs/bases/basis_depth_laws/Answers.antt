use Rattle.values.proofs.bases.basis_depth_laws.Goals as goal
use Rattle.values.proofs.BasesAsks.{basis-given_back, basis-deeper, basis-same}
use Rattle.values.proofs.BasesOutcomes.{basis-outcome_back, basis-outcome_deeper}
use Rattle.values.proofs.BasesRows.{basis-needs_below}

pub returns : goal.returns
returns c = record {
  given_back = basis-given_back;
  deeper = basis-deeper;
  any_prime = basis-same;
  outcome_back = basis-outcome_back;
  outcome_deeper = basis-outcome_deeper;
  below = basis-needs_below;
}
