use Rattle.oracle_iface.proofs.OneKey as lemmas
use Rattle.oracle_iface.proofs.orders.one_key.Goals as goal

pub returns : goal.returns
returns c = lemmas.one_key c.args.k.now
