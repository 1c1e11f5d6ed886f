use Rattle.std.proofs.Common.{sym, ◌∙◌}
use Rattle.std.specs.Ordering.{nat_cmp, ordering_then}
use Rattle.cells.proofs.Compared.{decides}
use Rattle.term_lang.specs.TermOrder.{term_cmp}
use Rattle.term_lang.proofs.TermForests.{by_kinds, by_contents, tables, spheres, products, suspensions, kz1s, bundles, loop_groups, path_spaces}
use Rattle.term_lang.proofs.order.TermOrd.+cmp.Goals as goal

pub returns-then-is_ne : goal.returns-then-is_ne
returns-then-is_ne t c =
    by_kinds c.args.self.now c.args.other.now _ (c.cmp-by_kind.ensures ∙ (λ i. nat_cmp (c.kind.ensures i) (c.kind-2.ensures i))) (sym c.is_ne.ensures ∙ c.if-is_ne.true)

pub returns-in-Table-Table : goal.returns-in-Table-Table
returns-in-Table-Table t c =
    by_contents c.args.self.now c.args.other.now _ _ _ c.in-Table-Table.is-0 c.in-Table-Table.is-1 (c.cmp.ensures ∙ sym (tables c.in-Table-Table.a c.in-Table-Table.b))

pub returns-in-Sphere-Sphere : goal.returns-in-Sphere-Sphere
returns-in-Sphere-Sphere t c =
    by_contents c.args.self.now c.args.other.now _ _ _ c.in-Sphere-Sphere.is-0 c.in-Sphere-Sphere.is-1 (c.cmp-in-Sphere-Sphere.ensures ∙ sym (spheres c.in-Sphere-Sphere.m c.in-Sphere-Sphere.n))

pub returns-in-Equal : goal.returns-in-Equal
returns-in-Equal t c =
    by_contents c.args.self.now c.args.other.now _ _ _ c.in-Product-Product.is-0 c.in-Product-Product.is-1
    (c.cmp-in-Equal.ensures ∙ (λ i. term_cmp (c.get-in-Equal.ensures i) (c.get-in-Equal-2.ensures i))
    ∙ (λ i. ordering_then
    ((sym c.in-Equal.is ∙ c.cmp-in-Product-Product.ensures ∙ (λ j. term_cmp (c.get.ensures j) (c.get-in-Product-Product.ensures j))) i)
    (term_cmp c.in-Product-Product.x c.in-Product-Product.y))
    ∙ sym (products c.in-Product-Product.a c.in-Product-Product.x c.in-Product-Product.b c.in-Product-Product.y))

pub returns-in_default-cmp : goal.returns-in_default-cmp
returns-in_default-cmp t c =
    by_contents c.args.self.now c.args.other.now _ _ _ c.in-Product-Product.is-0 c.in-Product-Product.is-1
    (decides c.cmp-in-Product-Product.result (term_cmp c.in-Product-Product.x c.in-Product-Product.y) c.in_default-cmp.not-Equal
    ∙ (λ i. ordering_then
    ((c.cmp-in-Product-Product.ensures ∙ (λ j. term_cmp (c.get.ensures j) (c.get-in-Product-Product.ensures j))) i)
    (term_cmp c.in-Product-Product.x c.in-Product-Product.y))
    ∙ sym (products c.in-Product-Product.a c.in-Product-Product.x c.in-Product-Product.b c.in-Product-Product.y))

pub returns-in-Suspension-Suspension : goal.returns-in-Suspension-Suspension
returns-in-Suspension-Suspension t c =
    by_contents c.args.self.now c.args.other.now _ _ _ c.in-Suspension-Suspension.is-0 c.in-Suspension-Suspension.is-1
    (c.cmp-in-Suspension-Suspension.ensures ∙ (λ i. term_cmp (c.get-in-Suspension-Suspension.ensures i) (c.get-in-Suspension-Suspension-2.ensures i))
    ∙ sym (suspensions c.in-Suspension-Suspension.a c.in-Suspension-Suspension.b))

pub returns-in-KZ1-KZ1 : goal.returns-in-KZ1-KZ1
returns-in-KZ1-KZ1 t c = by_contents c.args.self.now c.args.other.now _ _ _ c.in-KZ1-KZ1.is-0 c.in-KZ1-KZ1.is-1 (sym kz1s)

pub returns-in-Bundle-Bundle : goal.returns-in-Bundle-Bundle
returns-in-Bundle-Bundle t c =
    by_contents c.args.self.now c.args.other.now _ _ _ c.in-Bundle-Bundle.is-0 c.in-Bundle-Bundle.is-1
    (c.then.ensures ∙ (λ i. ordering_then (c.cmp-in-Bundle-Bundle.ensures i) (c.cmp_values.ensures i))
    ∙ sym (bundles c.in-Bundle-Bundle.a c.in-Bundle-Bundle.b c.in-Bundle-Bundle.v c.in-Bundle-Bundle.w))

pub returns-in-Loop-Loop : goal.returns-in-Loop-Loop
returns-in-Loop-Loop t c =
    by_contents c.args.self.now c.args.other.now _ _ _ c.in-Loop-Loop.is-0 c.in-Loop-Loop.is-1
    (c.cmp-in-Loop-Loop.ensures ∙ (λ i. term_cmp (c.get-in-Loop-Loop.ensures i) (c.get-in-Loop-Loop-2.ensures i)) ∙ sym (loop_groups c.in-Loop-Loop.a c.in-Loop-Loop.b))

pub returns-in-Path-Path : goal.returns-in-Path-Path
returns-in-Path-Path t c =
    by_contents c.args.self.now c.args.other.now _ _ _ c.in-Path-Path.is-0 c.in-Path-Path.is-1
    (c.cmp-in-Path-Path.ensures ∙ (λ i. term_cmp (c.get-in-Path-Path.ensures i) (c.get-in-Path-Path-2.ensures i)) ∙ sym (path_spaces c.in-Path-Path.a c.in-Path-Path.b))
