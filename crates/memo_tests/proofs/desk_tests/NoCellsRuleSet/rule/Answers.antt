use Rattle.force_engine.proofs.HighKey.{asks_none}
use Rattle.memo_tests.proofs.desk_tests.NoCellsRuleSet.rule.Goals as goal

pub returns-then-self-clause-asked : goal.returns-then-self-clause-asked
returns-then-self-clause-asked g c = asks_none g.F.Forcer.forces c.args._key.now _ _ c.requires.key.1.1

pub returns-else-self-clause-asked : goal.returns-else-self-clause-asked
returns-else-self-clause-asked g c = asks_none g.F.Forcer.forces c.args._key.now _ _ c.requires.key.1.1
