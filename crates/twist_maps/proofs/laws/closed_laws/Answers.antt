use Rattle.twist_maps.proofs.Opens.{closed-values, cocycle-closed}
use Rattle.twist_maps.proofs.laws.closed_laws.Goals as goal

pub returns-clause-closed : goal.returns-clause-closed
returns-clause-closed c = closed-values

pub returns-clause-none_open : goal.returns-clause-none_open
returns-clause-none_open c = cocycle-closed
