use Rattle.std.proofs.Common.{sym, subst}
use Rattle.session_core.proofs.ReadyNames.{IsReadyTerm, ready_integers}
use Rattle.session_core.proofs.parts.told_integers.Goals as goal

pub returns-clause-ready : goal.returns-clause-ready
returns-clause-ready c = subst IsReadyTerm (sym c.in_ok-new.ensures) ready_integers
