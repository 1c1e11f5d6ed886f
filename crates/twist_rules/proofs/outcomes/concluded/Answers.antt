use Rattle.std.proofs.Common.{subst}
use Rattle.twist_rules.specs.Concluded.{keys_needed, IsFoundFor}
use Rattle.twist_rules.proofs.Conclusions.{conclude-value, conclude-over, unrefused}
use Rattle.twist_rules.proofs.FibredBases.{kept}
use Rattle.twist_rules.proofs.outcomes.concluded.Goals as goal

pub returns-in-Value-clause-outcome : goal.returns-in-Value-clause-outcome
returns-in-Value-clause-outcome c =
    kept c.limited.result _ _
    (λ o e. conclude-value c.args.key.now c.requires.valid c.requires.space c.requires.back c.requires.place c.in-Value.body o
    (subst (IsFoundFor c.args.key.now) c.in-Value.is c.requires.found) e)
    c.limited.ensures

pub returns-in-Value-clause-unrefused : goal.returns-in-Value-clause-unrefused
returns-in-Value-clause-unrefused c =
    kept c.limited.result _ _ (λ o e. unrefused (keys_needed c.args.key.now) (subst (IsFoundFor c.args.key.now) c.in-Value.is c.requires.found).0 o) c.limited.ensures

pub returns-in-Over-clause-outcome : goal.returns-in-Over-clause-outcome
returns-in-Over-clause-outcome c =
    conclude-over c.args.key.now c.requires.valid c.requires.space c.requires.back c.requires.place c.in-Over.over (subst (IsFoundFor c.args.key.now) c.in-Over.is c.requires.found)
