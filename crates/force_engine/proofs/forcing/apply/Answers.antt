use Rattle.std.proofs.Common.{sym, subst}
use Rattle.oracle_iface.specs.Forcing.{MayForceNeeds}
use Rattle.force_engine.proofs.forcing.apply.Goals as goal

pub rule-requires-clause-forcer : goal.rule-requires-clause-forcer
rule-requires-clause-forcer g c = subst (λ k. MayForceNeeds g.F.Forcer.may_force g.F.Forcer.forces k c.args.forcer.now) (sym c.get.ensures) c.requires.forcer
