use Rattle.values.proofs.bases.basis_laws.Goals as goal
use Rattle.values.proofs.BasesCells.{basis-degree, basis-rising, basis-different, basis-members}

pub returns : goal.returns
returns c = record { degree = basis-degree; rising = basis-rising; different = basis-different; members = basis-members }
