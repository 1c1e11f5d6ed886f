use Rattle.kz1_rules.proofs.IntegersKeys.{asks-nothing}
use Rattle.kz1_rules.proofs.rules.rule.Goals as goal

pub returns-clause-asked : goal.returns-clause-asked
returns-clause-asked g c =
    asks-nothing c.args.key.now c.requires.valid c.requires.space c.requires.op g.F.Forcer.forces c.args.forcer.now c.outcome.result
