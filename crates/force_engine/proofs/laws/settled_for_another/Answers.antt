use Rattle.force_engine.proofs.Worked.{for_another, not_for_itself}
use Rattle.force_engine.proofs.laws.settled_for_another.Goals as goal

pub returns-clause-another : goal.returns-clause-another
returns-clause-another c = for_another c.args.key.now

pub returns-clause-own : goal.returns-clause-own
returns-clause-own c = not_for_itself c.args.key.now
