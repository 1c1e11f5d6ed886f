use Rattle.std.proofs.Common.{sym, ◌∙◌}
use Rattle.oracle_iface.specs.declared.bodies.Outcome.TheVariants.{Over as IsOver}
use Rattle.susp_rules.proofs.RuleLimits.{kept, asks-none, asks-over, outcome-past, outcome-within}
use Rattle.susp_rules.proofs.rules.rule.Goals as goal

pub returns-in_err-copy_key-in-Some-clause-asked : goal.returns-in_err-copy_key-in-Some-clause-asked
returns-in_err-copy_key-in-Some-clause-asked g c =
    asks-none g.F.Forcer.forces c.args.key.now c.args.forcer.now _ c.from_residual.result c.from_residual.ensures.1

pub returns-in_ok-copy_key-in-Some-clause-outcome : goal.returns-in_ok-copy_key-in-Some-clause-outcome
returns-in_ok-copy_key-in-Some-clause-outcome g c =
    (λ i. IsOver (record { key = c.in_ok-copy_key-in-Some.ensures i; kind = c.in-Some.kind; size = c.in-Some.size }))
    ∙ outcome-past c.args.key.now c.requires.valid c.requires.back c.in-Some.kind c.in-Some.size (sym c.place_past.ensures ∙ c.in-Some.is)

pub returns-in_ok-copy_key-in-Some-clause-asked : goal.returns-in_ok-copy_key-in-Some-clause-asked
returns-in_ok-copy_key-in-Some-clause-asked g c =
    asks-over g.F.Forcer.forces c.args.key.now c.args.forcer.now _

pub returns-in-None-clause-outcome : goal.returns-in-None-clause-outcome
returns-in-None-clause-outcome g c =
    kept c.limited_outcome.result _ _
    (λ o e. outcome-within c.args.key.now c.requires.valid c.requires.back (sym c.place_past.ensures ∙ c.in-None.is) o e) c.limited_outcome.ensures.outcome
