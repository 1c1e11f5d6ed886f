use Rattle.std.proofs.Common.{sym, ◌∙◌, subst}
use Rattle.term_lang.specs.SpaceOf.{space_of}
use Rattle.normal_forms.specs.Built.{IsBuilt}
use Rattle.rule_book.proofs.RuleAsks.{asks_nothing, built_term, integers-space, suspension-space, product-space, bundle-space, rows-table, rows-sphere}
use Rattle.rule_book.proofs.WithinLimits.{outcome-back}
use Rattle.rule_book.proofs.rules.single_outcome.Goals as goal

pub direct_outcome-requires-clause-key : goal.direct_outcome-requires-clause-key
direct_outcome-requires-clause-key g c = rows-table c.args.key.now c.in-Table.field-0 c.requires.key (sym c.get.ensures ∙ c.in-Table.is)

pub returns-in-Table-clause-asked : goal.returns-in-Table-clause-asked
returns-in-Table-clause-asked g c =
    asks_nothing g.F.Forcer.forces c.args.key.now c.args.forcer.now c.direct_outcome.result
    (rows-table c.args.key.now c.in-Table.field-0 c.requires.key (sym c.get.ensures ∙ c.in-Table.is)) c.requires.op

pub direct_outcome-requires-in-Sphere-clause-key : goal.direct_outcome-requires-in-Sphere-clause-key
direct_outcome-requires-in-Sphere-clause-key g c = rows-sphere c.args.key.now c.in-Sphere.field-0 c.requires.key (sym c.get.ensures ∙ c.in-Sphere.is)

pub returns-in-Sphere-clause-asked : goal.returns-in-Sphere-clause-asked
returns-in-Sphere-clause-asked g c =
    asks_nothing g.F.Forcer.forces c.args.key.now c.args.forcer.now c.direct_outcome-in-Sphere.result
    (rows-sphere c.args.key.now c.in-Sphere.field-0 c.requires.key (sym c.get.ensures ∙ c.in-Sphere.is)) c.requires.op

pub rule-requires-clause-space : goal.rule-requires-clause-space
rule-requires-clause-space g c = integers-space c.args.key.now (sym c.get.ensures ∙ c.in-KZ1.is)

pub rule-requires-in-Suspension-clause-space : goal.rule-requires-in-Suspension-clause-space
rule-requires-in-Suspension-clause-space g c = suspension-space c.args.key.now c.in-Suspension.field-0 c.requires.key (sym c.get.ensures ∙ c.in-Suspension.is)

pub rule-requires-in-Suspension-clause-back : goal.rule-requires-in-Suspension-clause-back
rule-requires-in-Suspension-clause-back g c = outcome-back c.args.key.now c.requires.key

pub rule-requires-in-Product-clause-space : goal.rule-requires-in-Product-clause-space
rule-requires-in-Product-clause-space g c =
    product-space c.args.key.now c.in-Product.field-0 c.in-Product.field-1 c.requires.key (sym c.get.ensures ∙ c.in-Product.is)

pub rule-requires-in-Bundle-clause-space : goal.rule-requires-in-Bundle-clause-space
rule-requires-in-Bundle-clause-space g c =
    bundle-space c.args.key.now c.in-Bundle.field-0 c.in-Bundle.field-1 c.requires.key (sym c.get.ensures ∙ c.in-Bundle.is)

pub unreachable-requires : goal.unreachable-requires
unreachable-requires g c =
    built_term c.get.result.now (subst (λ t. IsBuilt (space_of t)) (sym c.get.ensures) c.requires.key.1) c.in_default.not-Table c.in_default.not-Sphere c.in_default.not-KZ1
    c.in_default.not-Suspension c.in_default.not-Product c.in_default.not-Bundle
