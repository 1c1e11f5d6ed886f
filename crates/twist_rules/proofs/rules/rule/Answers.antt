use Rattle.std.proofs.Common.{sym, ◌∙◌}
use Rattle.oracle_iface.specs.declared.bodies.Outcome.TheVariants.{Over as IsOver}
use Rattle.susp_rules.proofs.RuleLimits.{asks-none, asks-over, outcome-past}
use Rattle.term_lang.specs.SpaceOf.{space_of}
use Rattle.twist_rules.proofs.Conclusions.{loopless-back}
use Rattle.twist_rules.proofs.PartNames.{assembled-loopless, built-assembled}
use Rattle.twist_rules.proofs.rules.rule.Goals as goal

pub returns-in_err-copy_key-in-Some-clause-asked : goal.returns-in_err-copy_key-in-Some-clause-asked
returns-in_err-copy_key-in-Some-clause-asked g c =
    asks-none g.F.Forcer.forces c.args.key.now c.args.forcer.now _ c.from_residual.result c.from_residual.ensures.1

pub returns-in_ok-copy_key-in-Some-clause-outcome : goal.returns-in_ok-copy_key-in-Some-clause-outcome
returns-in_ok-copy_key-in-Some-clause-outcome g c =
    let s = space_of c.args.key.now.term in
    (λ i. IsOver (record { key = c.in_ok-copy_key-in-Some.ensures i; kind = c.in-Some.kind; size = c.in-Some.size }))
    ∙ outcome-past c.args.key.now c.requires.valid (loopless-back c.args.key.now (assembled-loopless s (built-assembled s c.requires.space.1))) c.in-Some.kind c.in-Some.size
    (sym c.place_past.ensures ∙ c.in-Some.is)

pub returns-in_ok-copy_key-in-Some-clause-asked : goal.returns-in_ok-copy_key-in-Some-clause-asked
returns-in_ok-copy_key-in-Some-clause-asked g c = asks-over g.F.Forcer.forces c.args.key.now c.args.forcer.now _

pub within_limits-requires-clause-within : goal.within_limits-requires-clause-within
within_limits-requires-clause-within g c = sym c.place_past.ensures ∙ c.in-None.is
