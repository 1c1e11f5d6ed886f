use Rattle.std.proofs.Common.{sym, subst, arith}
use Rattle.session_core.proofs.ReadyNames.{IsReadyTerm, ready-dimension}
use Rattle.session_core.proofs.parts.told_sphere.Goals as goal

pub returns-clause-ready : goal.returns-clause-ready
returns-clause-ready c = subst IsReadyTerm (sym c.in_ok-new.ensures) (ready-dimension c.args.n (omega arith) (omega arith))
