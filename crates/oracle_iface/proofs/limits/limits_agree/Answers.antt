use Rattle.oracle_iface.proofs.LimitsAgree.{limits-agree}
use Rattle.oracle_iface.proofs.limits.limits_agree.Goals as goal

pub returns : goal.returns
returns c = limits-agree
