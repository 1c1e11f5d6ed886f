use Rattle.oracle_iface.proofs.CyclesNeeds.{cycles-need, needs-back}
use Rattle.oracle_iface.proofs.laws.cycles_laws.Goals as goal

pub returns : goal.returns
returns c = record { needs = cycles-need; back = needs-back }
