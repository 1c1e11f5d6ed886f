use Rattle.values.proofs.laws.refusal_laws.Goals as goal
use Rattle.values.proofs.Readings.{made-first}

pub returns : goal.returns
returns c = made-first
