use Rattle.std.proofs.Common.{◌≡◌, sym, ◌∙◌, ap, subst, IfOk, Some}
use Rattle.fp_field.specs.Field.{number}
use Rattle.fp_field.specs.Normal.{normal}
use Rattle.spaces.specs.Spaces.{Space}
use Rattle.cells.specs.Order.{cell_cmp}
use Rattle.term_lang.specs.Rows.{rows_of}
use Rattle.term_lang.specs.SpaceOf.{space_of}
use Rattle.term_lang.proofs.SpacesOfTerms.{space-Table, space-KZ1}
use Rattle.twist_chains.specs.Fibred.{AreTwistValues, turn_on, MayFront}
use Rattle.twist_chains.proofs.TwistCases.{left-table, right-integers, bundle-pair, bundle-integers}
use Rattle.twist_chains.proofs.steps.twist_with.Goals as goal

pub bundle_twist-requires-clause-values : goal.bundle_twist-requires-clause-values
bundle_twist-requires-clause-values c =
    let ea = ap space_of c.in-Table.is ∙ space-Table c.in-Table.base in
    let eb = ap space_of c.in-KZ1.is ∙ space-KZ1 in
    subst (λ (z : Space × Space). AreTwistValues (Some c.args.values.now) z.0 z.1) (λ i. (ea i, eb i)) c.requires.values

pub bundle_twist-requires-clause-pair : goal.bundle_twist-requires-clause-pair
bundle_twist-requires-clause-pair c =
    let ea = ap space_of c.in-Table.is ∙ space-Table c.in-Table.base in
    let eb = ap space_of c.in-KZ1.is ∙ space-KZ1 in
    bundle-pair (rows_of c.in-Table.base) c.args.pair.now.most c.args.c.now
    (subst (λ (z : Space × Space). MayFront z.0 z.1 c.args.pair.now.most c.args.c.now) (λ i. (ea i, eb i)) c.requires.pair)

pub bundle_twist-requires-clause-integers : goal.bundle_twist-requires-clause-integers
bundle_twist-requires-clause-integers c =
    let ea = ap space_of c.in-Table.is ∙ space-Table c.in-Table.base in
    let eb = ap space_of c.in-KZ1.is ∙ space-KZ1 in
    bundle-integers (rows_of c.in-Table.base) c.args.pair.now.most c.args.c.now
    (subst (λ (z : Space × Space). MayFront z.0 z.1 c.args.pair.now.most c.args.c.now) (λ i. (ea i, eb i)) c.requires.pair) c.args.pair.now.within

pub unreachable-requires : goal.unreachable-requires
unreachable-requires c =
    let ea = ap space_of c.in-Table.is ∙ space-Table c.in-Table.base in
    right-integers c.args.values.now (rows_of c.in-Table.base) c.args.pair.now.right.term.now c.in_default-term.not-KZ1
    (subst (λ x. AreTwistValues (Some c.args.values.now) x (space_of c.args.pair.now.right.term.now)) ea c.requires.values)

pub unreachable-requires-in_default : goal.unreachable-requires-in_default
unreachable-requires-in_default c =
    left-table c.args.values.now c.args.pair.now.left.term.now (space_of c.args.pair.now.right.term.now) c.in_default.not-Table c.requires.values

pub returns-clause-terms : goal.returns-clause-terms
returns-clause-terms c =
    let ea = ap space_of c.in-Table.is ∙ space-Table c.in-Table.base in
    let eb = ap space_of c.in-KZ1.is ∙ space-KZ1 in
    subst (λ (z : Space × Space). IfOk c.bundle_twist.result (λ r. r.terms ≡ normal cell_cmp (number c.args.p) (turn_on z.0 z.1 (Some c.args.values.now) (number c.args.p) c.args.c.now)))
    (λ i. (sym ea i, sym eb i)) c.bundle_twist.ensures.terms
