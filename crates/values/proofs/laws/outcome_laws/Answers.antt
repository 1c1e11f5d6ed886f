use Rattle.values.proofs.laws.outcome_laws.Goals as goal
use Rattle.values.proofs.Readings.{outcome-of}

pub returns : goal.returns
returns c = outcome-of
