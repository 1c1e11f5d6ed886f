use Rattle.std.proofs.Common.{subst}
use Rattle.oracle_iface.specs.Forcing.{AsksNeeds}
use Rattle.rule_book.proofs.RuleAsks.{shown, asks_limited}
use Rattle.rule_book.proofs.WithinLimits.{cycles-within}
use Rattle.rule_book.proofs.rules.cycles_outcome.Goals as goal

pub rule-requires-clause-shown : goal.rule-requires-clause-shown
rule-requires-clause-shown g c = shown c.args.key.now c.requires.key

pub within_limits-requires-clause-place : goal.within_limits-requires-clause-place
within_limits-requires-clause-place g c = cycles-within c.args.key.now c.requires.key c.requires.op

pub returns-clause-asked : goal.returns-clause-asked
returns-clause-asked g c =
    asks_limited g.F.Forcer.forces c.args.key.now c.args.forcer.now c.rule.new.forcer c.in_ok-found.found c.within_limits.result c.within_limits.ensures.refused
    (subst (λ r. AsksNeeds g.F.Forcer.forces c.args.key.now c.args.forcer.now c.rule.new.forcer r) c.in_ok-found.was c.rule.ensures.asked)
