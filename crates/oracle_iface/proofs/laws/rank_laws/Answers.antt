use Rattle.oracle_iface.proofs.KeyRanks.{lower-rank}
use Rattle.oracle_iface.proofs.laws.rank_laws.Goals as goal

pub returns : goal.returns
returns c = lower-rank
