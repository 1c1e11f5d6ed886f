use Rattle.std.proofs.Common.{subst}
use Rattle.oracle_iface.specs.Stands.{IsRead}
use Rattle.rule_book.proofs.Kept.{kept}
use Rattle.rule_book.proofs.WithinLimits.{limit_value, limit_over}
use Rattle.rule_book.proofs.RuleAsks.{stays_free, stays_over}
use Rattle.rule_book.proofs.outcomes.within_limits.Goals as goal

pub returns-in-Value-clause-outcome : goal.returns-in-Value-clause-outcome
returns-in-Value-clause-outcome c =
    kept c.limited.result _ _ (λ o e. limit_value c.args.key.now c.requires.key c.requires.place c.in-Value.body o (subst (IsRead c.args.key.now) c.in-Value.is c.requires.found) e) c.limited.ensures

pub returns-in-Value-clause-refused : goal.returns-in-Value-clause-refused
returns-in-Value-clause-refused c = kept c.limited.result _ _ (λ o e. stays_free c.args.found c.in-Value.body o c.in-Value.is) c.limited.ensures

pub returns-in-Over-clause-outcome : goal.returns-in-Over-clause-outcome
returns-in-Over-clause-outcome c = limit_over c.args.key.now c.requires.key c.requires.place c.in-Over.over (subst (IsRead c.args.key.now) c.in-Over.is c.requires.found)

pub returns-in-Over-clause-refused : goal.returns-in-Over-clause-refused
returns-in-Over-clause-refused c = stays_over c.args.found c.in-Over.over c.in-Over.is
