use Rattle.std.proofs.Common.{sym, ◌∙◌, ap}
use Rattle.susp_rules.proofs.RuleLimits.{kept, none-found, key-found, asks-nothing, asks-none, asks-one, may-ask, base-limited, over-limited, value-fits, value-limited}
use Rattle.susp_rules.proofs.rules.limited_outcome.Goals as goal

pub returns-in_err-part_key-clause-asked : goal.returns-in_err-part_key-clause-asked
returns-in_err-part_key-clause-asked g c =
    asks-none g.F.Forcer.forces c.args.key.now c.args.forcer.now _ c.from_residual.result c.from_residual.ensures.1

pub returns-in_err-base_value-in-None-clause-asked : goal.returns-in_err-base_value-in-None-clause-asked
returns-in_err-base_value-in-None-clause-asked g c =
    asks-nothing g.F.Forcer.forces c.args.key.now c.args.forcer.now
    (none-found c.args.key.now.prime _ c.in_ok-part_key.field-0 c.in-None.is c.in_ok-part_key.ensures) c.from_residual-in_err-base_value-in-None.result

pub returns-in-None-clause-outcome : goal.returns-in-None-clause-outcome
returns-in-None-clause-outcome g c =
    kept c.limited.result _ _
    (λ o e. base-limited c.args.key.now c.requires.valid c.requires.space.0 c.requires.space.1 c.requires.op
    (none-found c.args.key.now.prime _ c.in_ok-part_key.field-0 c.in-None.is c.in_ok-part_key.ensures) c.in_ok-base_value-in-None.field-0 c.in_ok-base_value-in-None.ensures o e)
    c.limited.ensures

pub returns-in-None-clause-asked : goal.returns-in-None-clause-asked
returns-in-None-clause-asked g c =
    asks-nothing g.F.Forcer.forces c.args.key.now c.args.forcer.now
    (none-found c.args.key.now.prime _ c.in_ok-part_key.field-0 c.in-None.is c.in_ok-part_key.ensures) c.limited.result

pub force-requires : goal.force-requires
force-requires g c =
    let n = key-found c.args.key.now.prime _ c.in_ok-part_key.field-0 c.in-Some.asked c.in-Some.is c.in_ok-part_key.ensures in
    may-ask g.F.Forcer.forces c.args.key.now c.args.forcer.now g.F.Forcer.may_force c.requires.forcer n.0 n.1 c.in-Some.asked n.2

pub returns-in_err-cell-clause-asked : goal.returns-in_err-cell-clause-asked
returns-in_err-cell-clause-asked g c =
    let n = key-found c.args.key.now.prime _ c.in_ok-part_key.field-0 c.in-Some.asked c.in-Some.is c.in_ok-part_key.ensures in
    asks-one g.F.Forcer.forces c.args.key.now c.args.forcer.now n.0 n.1 c.in-Some.asked n.2 c.force.new.self c.force.result c.force.ensures.call c.from_residual-in_err-cell.result

pub returns-in_err-copy_over-in-Over-clause-asked : goal.returns-in_err-copy_over-in-Over-clause-asked
returns-in_err-copy_over-in-Over-clause-asked g c =
    let n = key-found c.args.key.now.prime _ c.in_ok-part_key.field-0 c.in-Some.asked c.in-Some.is c.in_ok-part_key.ensures in
    asks-one g.F.Forcer.forces c.args.key.now c.args.forcer.now n.0 n.1 c.in-Some.asked n.2 c.force.new.self c.force.result c.force.ensures.call c.from_residual-in_err-copy_over-in-Over.result

pub returns-in-Over-clause-outcome : goal.returns-in-Over-clause-outcome
returns-in-Over-clause-outcome g c =
    let n = key-found c.args.key.now.prime _ c.in_ok-part_key.field-0 c.in-Some.asked c.in-Some.is c.in_ok-part_key.ensures in
    over-limited c.args.key.now c.requires.valid c.requires.space.0 c.requires.space.1 c.requires.op c.requires.space.2 n.0 n.1 c.in_ok-cell.cell c.in-Over.over c.in_ok-copy_over-in-Over.field-0
    (c.in_ok-cell.ensures.key ∙ n.2) (ap (λ v. v.outcome) (sym c.get.ensures) ∙ c.in-Over.is) c.in_ok-cell.cell.right c.in_ok-copy_over-in-Over.ensures

pub returns-in-Over-clause-asked : goal.returns-in-Over-clause-asked
returns-in-Over-clause-asked g c =
    let n = key-found c.args.key.now.prime _ c.in_ok-part_key.field-0 c.in-Some.asked c.in-Some.is c.in_ok-part_key.ensures in
    asks-one g.F.Forcer.forces c.args.key.now c.args.forcer.now n.0 n.1 c.in-Some.asked n.2 c.force.new.self c.force.result c.force.ensures.call _

pub raised-requires : goal.raised-requires
raised-requires g c =
    let n = key-found c.args.key.now.prime _ c.in_ok-part_key.field-0 c.in-Some.asked c.in-Some.is c.in_ok-part_key.ensures in
    value-fits c.args.key.now c.requires.valid c.requires.space.0 c.requires.space.1 c.requires.op c.requires.space.2 n.0 n.1 c.in_ok-cell.cell c.in-Value.body
    (c.in_ok-cell.ensures.key ∙ n.2) (ap (λ v. v.outcome) (sym c.get.ensures) ∙ c.in-Value.is) c.in_ok-cell.cell.right

pub returns-in_err-raised-in-Value-clause-asked : goal.returns-in_err-raised-in-Value-clause-asked
returns-in_err-raised-in-Value-clause-asked g c =
    let n = key-found c.args.key.now.prime _ c.in_ok-part_key.field-0 c.in-Some.asked c.in-Some.is c.in_ok-part_key.ensures in
    asks-one g.F.Forcer.forces c.args.key.now c.args.forcer.now n.0 n.1 c.in-Some.asked n.2 c.force.new.self c.force.result c.force.ensures.call c.from_residual-in_err-raised-in-Value.result

pub returns-clause-outcome : goal.returns-clause-outcome
returns-clause-outcome g c =
    let n = key-found c.args.key.now.prime _ c.in_ok-part_key.field-0 c.in-Some.asked c.in-Some.is c.in_ok-part_key.ensures in
    kept c.limited-in-Value.result _ _
    (λ o e. value-limited c.args.key.now c.requires.valid c.requires.space.0 c.requires.space.1 c.requires.op c.requires.space.2 n.0 n.1 c.in_ok-cell.cell c.in-Value.body
    c.in_ok-raised-in-Value.field-0 (c.in_ok-cell.ensures.key ∙ n.2) (ap (λ v. v.outcome) (sym c.get.ensures) ∙ c.in-Value.is) c.in_ok-cell.cell.right c.in_ok-raised-in-Value.ensures o e)
    c.limited-in-Value.ensures

pub returns-clause-asked : goal.returns-clause-asked
returns-clause-asked g c =
    let n = key-found c.args.key.now.prime _ c.in_ok-part_key.field-0 c.in-Some.asked c.in-Some.is c.in_ok-part_key.ensures in
    asks-one g.F.Forcer.forces c.args.key.now c.args.forcer.now n.0 n.1 c.in-Some.asked n.2 c.force.new.self c.force.result c.force.ensures.call c.limited-in-Value.result
