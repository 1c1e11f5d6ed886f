-- Rules for all valid keys about built spaces are rules for all keys that a session asks for.
use Rattle.susp_rules.specs.Treated.{IsTreated}
use Rattle.kernel_run.specs.Treated.{TreatsAll}

pub treats_all : TreatsAll IsTreated
treats_all k is = is
