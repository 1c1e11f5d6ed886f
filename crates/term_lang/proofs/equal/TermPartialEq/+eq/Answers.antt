use Rattle.std.proofs.Common.{refl, ◌∙◌}
use Rattle.std.specs.Ordering.{eq_by_cmp}
use Rattle.cells.specs.Forests.{forest_cmp}
use Rattle.cells.specs.Order.{ints_forest}
use Rattle.term_lang.specs.TermOrder.{rows_forest, term_cmp}
use Rattle.term_lang.proofs.TermForests.{tables, spheres, products, suspensions, kz1s, bundles, loop_groups, path_spaces}
use Rattle.term_lang.proofs.TermEquals.{other_kinds, with_contents, same_spheres, same_ints, first_differs, first_same}
use Rattle.term_lang.proofs.equal.TermPartialEq.+eq.Goals as goal

pub returns-then-kind : goal.returns-then-kind
returns-then-kind t c = other_kinds c.args.self.now c.args.other.now c.kind.result c.kind-2.result c.kind.ensures c.kind-2.ensures c.if-kind.true

pub returns-in-Table-Table : goal.returns-in-Table-Table
returns-in-Table-Table t c =
    with_contents c.args.self.now c.args.other.now _ _ _ _ c.in-Table-Table.is-0 c.in-Table-Table.is-1 (tables c.in-Table-Table.a c.in-Table-Table.b) c.eq.ensures

pub returns-in-Sphere-Sphere : goal.returns-in-Sphere-Sphere
returns-in-Sphere-Sphere t c =
    with_contents c.args.self.now c.args.other.now _ _ _ _ c.in-Sphere-Sphere.is-0 c.in-Sphere-Sphere.is-1 (spheres c.in-Sphere-Sphere.m c.in-Sphere-Sphere.n)
    (same_spheres c.in-Sphere-Sphere.m c.in-Sphere-Sphere.n)

pub returns-then-eq : goal.returns-then-eq
returns-then-eq t c =
    with_contents c.args.self.now c.args.other.now _ _ _ _ c.in-Product-Product.is-0 c.in-Product-Product.is-1
    (products c.in-Product-Product.a c.in-Product-Product.x c.in-Product-Product.b c.in-Product-Product.y)
    (first_same (term_cmp c.in-Product-Product.a c.in-Product-Product.b) (term_cmp c.in-Product-Product.x c.in-Product-Product.y) c.eq-in-Product-Product.result c.eq-then-eq.result
    (c.eq-in-Product-Product.ensures ∙ (λ i. eq_by_cmp term_cmp (c.get.ensures i) (c.get-in-Product-Product.ensures i))) c.if-eq.true
    (c.eq-then-eq.ensures ∙ (λ i. eq_by_cmp term_cmp (c.get-then-eq.ensures i) (c.get-then-eq-2.ensures i))))

pub returns-else-eq : goal.returns-else-eq
returns-else-eq t c =
    with_contents c.args.self.now c.args.other.now _ _ _ _ c.in-Product-Product.is-0 c.in-Product-Product.is-1
    (products c.in-Product-Product.a c.in-Product-Product.x c.in-Product-Product.b c.in-Product-Product.y)
    (first_differs (term_cmp c.in-Product-Product.a c.in-Product-Product.b) (term_cmp c.in-Product-Product.x c.in-Product-Product.y) c.eq-in-Product-Product.result
    (c.eq-in-Product-Product.ensures ∙ (λ i. eq_by_cmp term_cmp (c.get.ensures i) (c.get-in-Product-Product.ensures i))) c.if-eq.false)

pub returns-in-Suspension-Suspension : goal.returns-in-Suspension-Suspension
returns-in-Suspension-Suspension t c =
    with_contents c.args.self.now c.args.other.now _ _ _ _ c.in-Suspension-Suspension.is-0 c.in-Suspension-Suspension.is-1
    (suspensions c.in-Suspension-Suspension.a c.in-Suspension-Suspension.b)
    (c.eq-in-Suspension-Suspension.ensures ∙ (λ i. eq_by_cmp term_cmp (c.get-in-Suspension-Suspension.ensures i) (c.get-in-Suspension-Suspension-2.ensures i)))

pub returns-in-KZ1-KZ1 : goal.returns-in-KZ1-KZ1
returns-in-KZ1-KZ1 t c = with_contents c.args.self.now c.args.other.now _ _ _ _ c.in-KZ1-KZ1.is-0 c.in-KZ1-KZ1.is-1 kz1s refl

pub returns-then-eq-2 : goal.returns-then-eq-2
returns-then-eq-2 t c =
    with_contents c.args.self.now c.args.other.now _ _ _ _ c.in-Bundle-Bundle.is-0 c.in-Bundle-Bundle.is-1
    (bundles c.in-Bundle-Bundle.a c.in-Bundle-Bundle.b c.in-Bundle-Bundle.v c.in-Bundle-Bundle.w)
    (first_same (forest_cmp (rows_forest c.in-Bundle-Bundle.a) (rows_forest c.in-Bundle-Bundle.b)) (forest_cmp (ints_forest c.in-Bundle-Bundle.v) (ints_forest c.in-Bundle-Bundle.w))
    c.eq-in-Bundle-Bundle.result c.eq-then-eq-2.result c.eq-in-Bundle-Bundle.ensures c.if-eq-2.true
    (c.eq-then-eq-2.ensures ∙ same_ints c.in-Bundle-Bundle.v c.in-Bundle-Bundle.w))

pub returns-else-eq-2 : goal.returns-else-eq-2
returns-else-eq-2 t c =
    with_contents c.args.self.now c.args.other.now _ _ _ _ c.in-Bundle-Bundle.is-0 c.in-Bundle-Bundle.is-1
    (bundles c.in-Bundle-Bundle.a c.in-Bundle-Bundle.b c.in-Bundle-Bundle.v c.in-Bundle-Bundle.w)
    (first_differs (forest_cmp (rows_forest c.in-Bundle-Bundle.a) (rows_forest c.in-Bundle-Bundle.b)) (forest_cmp (ints_forest c.in-Bundle-Bundle.v) (ints_forest c.in-Bundle-Bundle.w))
    c.eq-in-Bundle-Bundle.result c.eq-in-Bundle-Bundle.ensures c.if-eq-2.false)

pub returns-in-Loop-Loop : goal.returns-in-Loop-Loop
returns-in-Loop-Loop t c =
    with_contents c.args.self.now c.args.other.now _ _ _ _ c.in-Loop-Loop.is-0 c.in-Loop-Loop.is-1 (loop_groups c.in-Loop-Loop.a c.in-Loop-Loop.b)
    (c.eq-in-Loop-Loop.ensures ∙ (λ i. eq_by_cmp term_cmp (c.get-in-Loop-Loop.ensures i) (c.get-in-Loop-Loop-2.ensures i)))

pub returns-in-Path-Path : goal.returns-in-Path-Path
returns-in-Path-Path t c =
    with_contents c.args.self.now c.args.other.now _ _ _ _ c.in-Path-Path.is-0 c.in-Path-Path.is-1 (path_spaces c.in-Path-Path.a c.in-Path-Path.b)
    (c.eq-in-Path-Path.ensures ∙ (λ i. eq_by_cmp term_cmp (c.get-in-Path-Path.ensures i) (c.get-in-Path-Path-2.ensures i)))
