use Rattle.std.proofs.Common.{◌≡◌, ◌-◌, true, sym, ◌∙◌, ap, subst, arith, refl}
use Rattle.std.proofs.lemmas.Bool.{false≢true}
use Rattle.std.specs.Prelude.{IfOk}
use Rattle.spaces.specs.Spaces.{suspension}
use Rattle.spaces.specs.Allowed.{IsAllowed, space_depth}
use Rattle.term_lang.specs.SpaceOf.{space_of}
use Rattle.term_lang.proofs.SpacesOfTerms.{space-Table, space-Sphere, space-Suspension, space-KZ1, space-Bundle}
use Rattle.normal_forms.specs.Built.{IsBuilt}
use Rattle.script_lang.specs.Meaning.{is_prefix}
use Rattle.script_lang.specs.Resolved.{IsFound, body_meaning}
use Rattle.script_lang.proofs.ResolvePrefixes.{word_of_prefix, length-word}
use Rattle.script_lang.proofs.ResolveMeanings.{up_other, product_other}
use Rattle.script_lang.proofs.ResolveSpaces.{read_table, read_sphere}
use Rattle.script_lang.proofs.ResolveTerms.{unbuilt}
use Rattle.script_lang.proofs.ResolveFound.{no_prefix, text_fits, text_found, cell_found, found_at, text_for}
use Rattle.script_lang.proofs.ResolvePairs.{at_values, product_found, product_space}
use Rattle.script_lang.proofs.ResolveRaised.{base_found, base_high, up_low, up_none, up_found}
use Rattle.script_lang.proofs.resolving.+found.Goals as goal

pub body_of-sphere_cell-requires : goal.body_of-sphere_cell-requires
body_of-sphere_cell-requires t c =
    let e = ap space_of c.in-Sphere.is ∙ space-Sphere c.in-Sphere.m in
    (subst IsAllowed e c.requires.allowed).0.0

pub body_of-suspended-requires : goal.body_of-suspended-requires
body_of-suspended-requires t c =
    let e = ap space_of c.in-Suspension.is ∙ space-Suspension c.in-Suspension.part ∙ ap (λ p. suspension (space_of p)) (sym c.get-in-Suspension.ensures) in
    (omega (arith, c.decreases, ap space_depth e), (subst IsAllowed e c.requires.allowed, (subst IsBuilt e c.requires.built, c.requires.degree)))

pub body_of-unreachable-requires : goal.body_of-unreachable-requires
body_of-unreachable-requires t c =
    unbuilt c.args.t.now c.requires.built (λ rows. c.in_default.not-Table rows) c.in_default.not-Sphere c.in_default.not-Product c.in_default.not-Suspension
    c.in_default.not-KZ1 (λ rows. c.in_default.not-Bundle rows)

pub body_of-returns-in-Table : goal.body_of-returns-in-Table
body_of-returns-in-Table t c =
    let e = ap space_of c.in-Table.is ∙ space-Table c.in-Table.rows in
    subst (λ a. IsFound a c.args.n (body_meaning c.args.body.now a c.args.n) c.bare.result) (sym e)
    (cell_found _ (read_table _ (subst IsAllowed e c.requires.allowed).0) c.args.n (omega (arith, c.requires.degree)) c.args.body.now c.bare.result c.table_cell.result c.bare.ensures c.table_cell.ensures)

pub body_of-returns-in_ok-sphere_cell-in-Sphere : goal.body_of-returns-in_ok-sphere_cell-in-Sphere
body_of-returns-in_ok-sphere_cell-in-Sphere t c =
    let e = ap space_of c.in-Sphere.is ∙ space-Sphere c.in-Sphere.m in
    subst (λ a. IsFound a c.args.n (body_meaning c.args.body.now a c.args.n) c.bare-in-Sphere.result) (sym e)
    (cell_found _ (read_sphere _ (subst IsAllowed e c.requires.allowed).0.0) c.args.n (omega (arith, c.requires.degree)) c.args.body.now c.bare-in-Sphere.result c.in_ok-sphere_cell-in-Sphere.field-0
    c.bare-in-Sphere.ensures c.in_ok-sphere_cell-in-Sphere.ensures)

pub body_of-returns-in-Suspension : goal.body_of-returns-in-Suspension
body_of-returns-in-Suspension t c =
    let e = ap space_of c.in-Suspension.is ∙ space-Suspension c.in-Suspension.part ∙ ap (λ p. suspension (space_of p)) (sym c.get-in-Suspension.ensures) in
    subst (λ a. IfOk c.suspended.result (λ x. IsFound a c.args.n (body_meaning c.args.body.now a c.args.n) x)) (sym e) c.suspended.ensures

pub body_of-multiplied-requires : goal.body_of-multiplied-requires
body_of-multiplied-requires t c =
    let e = product_space c.args.t.now c.in-Product.left c.in-Product.right _ _ c.in-Product.is c.get.ensures c.get-in-Product.ensures in
    (omega (arith, c.decreases, ap space_depth e), (subst IsAllowed e c.requires.allowed, (subst IsBuilt e c.requires.built, c.requires.degree)))

pub body_of-returns-in-Product : goal.body_of-returns-in-Product
body_of-returns-in-Product t c =
    let e = product_space c.args.t.now c.in-Product.left c.in-Product.right _ _ c.in-Product.is c.get.ensures c.get-in-Product.ensures in
    subst (λ a. IfOk c.multiplied.result (λ x. IsFound a c.args.n (body_meaning c.args.body.now a c.args.n) x)) (sym e) c.multiplied.ensures

pub body_of-returns-in-Bundle : goal.body_of-returns-in-Bundle
body_of-returns-in-Bundle t c =
    let e = ap space_of c.in-Bundle.is ∙ space-Bundle c.in-Bundle.rows _ in
    subst (λ a. IfOk c.bundled.result (λ x. IsFound a c.args.n (body_meaning c.args.body.now a c.args.n) x)) (sym e)
    (at_values _ _ _ _ (subst IsAllowed e c.requires.allowed) c.bundled.result c.bundled.ensures)

pub multiplied-returns-in_default : goal.multiplied-returns-in_default
multiplied-returns-in_default t c =
    product_other c.args.body.now c.in_default.not-Pair (space_of c.args.left.now) (space_of c.args.right.now) c.args.n

pub multiplied-returns-in_ok-y-in-Pair : goal.multiplied-returns-in_ok-y-in-Pair
multiplied-returns-in_ok-y-in-Pair t c =
    product_found (space_of c.args.left.now) (space_of c.args.right.now) c.requires.allowed c.requires.built c.args.n (omega (arith, c.requires.degree)) c.args.body.now
    c.in-Pair.x c.in-Pair.y c.in-Pair.is _ _ _ _ c.joined.result c.get.ensures c.get-in-Pair.ensures c.in_ok-x-in-Pair.ensures c.in_ok-y-in-Pair.ensures c.joined.ensures

pub body_of-returns-in-KZ1 : goal.body_of-returns-in-KZ1
body_of-returns-in-KZ1 t c =
    let e = ap space_of c.in-KZ1.is ∙ space-KZ1 in
    subst (λ a. IfOk c.listed.result (λ x. IsFound a c.args.n (body_meaning c.args.body.now a c.args.n) x)) (sym e) c.listed.ensures

pub simplex_of-returns-in_default : goal.simplex_of-returns-in_default
simplex_of-returns-in_default t c =
    no_prefix (space_of c.args.t.now) c.args.n c.args.text.now
    (λ h. false≢true (c.in_default.ensures.some.1 (subst (λ w. is_prefix c.args.n w ≡ true) (sym c.as_slice-indices.ensures) h)))

pub simplex_of-overflow_sub-lower : goal.simplex_of-overflow_sub-lower
simplex_of-overflow_sub-lower t c = length-word c.args.n c.as_slice-indices.result.now (word_of_prefix c.args.n c.as_slice-indices.result.now (c.in-Some.ensures.some.0 refl))

pub simplex_of-overflow_cast-lower : goal.simplex_of-overflow_cast-lower
simplex_of-overflow_cast-lower t c =
    omega (arith, length-word c.args.n c.as_slice-indices.result.now (word_of_prefix c.args.n c.as_slice-indices.result.now (c.in-Some.ensures.some.0 refl)))

pub simplex_of-prefixed-requires : goal.simplex_of-prefixed-requires
simplex_of-prefixed-requires t c =
    let a = space_of c.args.t.now in
    text_fits a c.args.n c.args.text.now c.requires.allowed.0 c.requires.built (omega (arith, c.requires.degree))
    (subst (λ w. is_prefix c.args.n w ≡ true) c.as_slice-indices.ensures (c.in-Some.ensures.some.0 refl)) c.in-Some.degens (c.in-Some.ensures.word ∙ c.as_slice-indices.ensures)
    c.in_ok-body_of.field-0 (found_at a c.args.n c.args.text.now.body _ _ _ c.as_slice-indices.ensures c.in_ok-body_of.ensures)

pub simplex_of-returns : goal.simplex_of-returns
simplex_of-returns t c =
    let a = space_of c.args.t.now in
    text_found a c.args.n c.args.text.now c.requires.allowed.0 c.requires.built (omega (arith, c.requires.degree))
    (subst (λ w. is_prefix c.args.n w ≡ true) c.as_slice-indices.ensures (c.in-Some.ensures.some.0 refl)) c.in-Some.degens (c.in-Some.ensures.word ∙ c.as_slice-indices.ensures)
    c.in_ok-body_of.field-0 c.prefixed.result (found_at a c.args.n c.args.text.now.body _ _ _ c.as_slice-indices.ensures c.in_ok-body_of.ensures) c.prefixed.ensures

pub suspended-returns-in_default : goal.suspended-returns-in_default
suspended-returns-in_default t c = up_other (space_of c.args.part.now) c.args.n c.args.body.now c.in_default.not-Star c.in_default.not-Up

pub suspended-returns-then-n-eq0 : goal.suspended-returns-then-n-eq0
suspended-returns-then-n-eq0 t c =
    let a = space_of c.args.part.now in
    subst (IsFound (suspension a) c.args.n (body_meaning c.args.body.now (suspension a) c.args.n)) (sym c.bare.ensures)
    (base_found a c.requires.allowed.0 c.args.body.now c.args.n c.in-Star.is c.if-n-eq0.true)

pub suspended-returns-else-n-eq0 : goal.suspended-returns-else-n-eq0
suspended-returns-else-n-eq0 t c = base_high (space_of c.args.part.now) c.requires.allowed.0 c.args.body.now c.args.n c.in-Star.is c.if-n-eq0.false

pub suspended-returns-then-n-eq0-2 : goal.suspended-returns-then-n-eq0-2
suspended-returns-then-n-eq0-2 t c = up_low (space_of c.args.part.now) c.requires.allowed.0 c.args.body.now c.args.n c.in-Up.x c.in-Up.is c.if-n-eq0-2.true

pub suspended-returns-in_ok-raised-in-Some : goal.suspended-returns-in_ok-raised-in-Some
suspended-returns-in_ok-raised-in-Some t c =
    let a = space_of c.args.part.now in
    let r = c.in_ok-raised-in-Some.ensures in
    up_found a c.requires.allowed.0 c.requires.built c.args.body.now c.args.n c.in-Up.x (omega (arith, c.requires.degree)) c.in-Up.is (omega (arith, c.if-n-eq0-2.false)) c.in-Some.y
    c.in_ok-raised-in-Some.field-0 (text_for a (c.args.n - 1) _ _ _ _ c.get.ensures c.in-Some.is c.in_ok-y-in-Up.ensures)
    (record { base = r.base; base_word = r.base_word; up = r.up; up_word = r.up_word })

pub suspended-returns-in-None : goal.suspended-returns-in-None
suspended-returns-in-None t c =
    let a = space_of c.args.part.now in
    up_none a c.requires.allowed.0 c.args.body.now c.args.n c.in-Up.x c.in-Up.is (omega (arith, c.if-n-eq0-2.false))
    (text_for a (c.args.n - 1) _ _ _ _ c.get.ensures c.in-None.is c.in_ok-y-in-Up.ensures)
