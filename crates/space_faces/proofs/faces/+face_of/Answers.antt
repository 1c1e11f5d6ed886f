use Rattle.std.proofs.Common.{◌≡◌, ◌-◌, ◌^◌, ◌<◌, ◌≤◌, max, IfOk, suc, sym, ◌∙◌, ap, subst, arith}
use Rattle.simp_ops.specs.Bits.{mask_word}
use Rattle.spaces.specs.Spaces.{set_of}
use Rattle.spaces.specs.Tables.{all_degeneracies}
use Rattle.spaces.specs.Allowed.{IsAllowed, space_depth}
use Rattle.cells.specs.Dim.{degree_of}
use Rattle.term_lang.specs.Belongs.{IsSimplex}
use Rattle.term_lang.specs.Forms.{form}
use Rattle.term_lang.specs.SpaceOf.{space_of}
use Rattle.term_lang.proofs.SpacesOfTerms.{space-Table, space-Sphere, space-Product, space-KZ1, space-Bundle, space-Suspension}
use Rattle.normal_forms.specs.Built.{IsBuilt}
use Rattle.space_faces.proofs.BuiltTerms.{only_built}
use Rattle.space_faces.proofs.SuspensionFaces.{allowed_part, built_part, absorbed_face, up_of, positive_dim, low_dim, words_fit, face_before, first_face, under_simplex, under_positive, under_most, under_index, under_integers, face_degree, face_mask, later_face}
use Rattle.space_faces.proofs.ProductFaces as P
use Rattle.space_faces.proofs.faces.+face_of.Goals as goal

pub table_face-requires-clause-simplex : goal.table_face-requires-clause-simplex
table_face-requires-clause-simplex t c =
    let e = ap space_of c.in-Table.is ∙ space-Table _ in
    subst (λ X. IsSimplex X (degree_of c.args.x.now) c.args.x.now) e c.requires.simplex

pub sphere_face-requires-clause-dimension : goal.sphere_face-requires-clause-dimension
sphere_face-requires-clause-dimension t c =
    let e = ap space_of c.in-Sphere.is ∙ space-Sphere _ in
    (subst IsAllowed e c.requires.allowed).0.0

pub sphere_face-requires-clause-simplex : goal.sphere_face-requires-clause-simplex
sphere_face-requires-clause-simplex t c =
    let e = ap space_of c.in-Sphere.is ∙ space-Sphere _ in
    subst (λ X. IsSimplex X (degree_of c.args.x.now) c.args.x.now) e c.requires.simplex

pub ints_simplex_face-requires-clause-simplex : goal.ints_simplex_face-requires-clause-simplex
ints_simplex_face-requires-clause-simplex t c =
    let e = ap space_of c.in-KZ1.is ∙ space-KZ1 in
    subst (λ X. IsSimplex X (degree_of c.args.x.now) c.args.x.now) e c.requires.simplex

pub unreachable-requires : goal.unreachable-requires
unreachable-requires t c =
    only_built c.args.t.now c.in_default.not-Table c.in_default.not-Sphere c.in_default.not-Suspension c.in_default.not-KZ1 c.in_default.not-Product c.in_default.not-Bundle c.requires.built

pub returns-in-Table-clause-form : goal.returns-in-Table-clause-form
returns-in-Table-clause-form t c =
    let e = ap space_of c.in-Table.is ∙ space-Table _ in
    subst (λ X. form c.table_face.result X ≡ (set_of X).face c.args.i (form c.args.x.now X)) (sym e) c.table_face.ensures.form

pub returns-in-Table-clause-simplex : goal.returns-in-Table-clause-simplex
returns-in-Table-clause-simplex t c =
    let e = ap space_of c.in-Table.is ∙ space-Table _ in
    subst (λ X. IsSimplex X (degree_of c.args.x.now - 1) c.table_face.result) (sym e) c.table_face.ensures.simplex

pub returns-in-Sphere-clause-form : goal.returns-in-Sphere-clause-form
returns-in-Sphere-clause-form t c =
    let e = ap space_of c.in-Sphere.is ∙ space-Sphere _ in
    subst (λ X. IfOk c.sphere_face.result (λ y. form y X ≡ (set_of X).face c.args.i (form c.args.x.now X))) (sym e) c.sphere_face.ensures.form

pub returns-in-Sphere-clause-simplex : goal.returns-in-Sphere-clause-simplex
returns-in-Sphere-clause-simplex t c =
    let e = ap space_of c.in-Sphere.is ∙ space-Sphere _ in
    subst (λ X. IfOk c.sphere_face.result (IsSimplex X (degree_of c.args.x.now - 1))) (sym e) c.sphere_face.ensures.simplex

pub returns-in-KZ1-clause-form : goal.returns-in-KZ1-clause-form
returns-in-KZ1-clause-form t c =
    let e = ap space_of c.in-KZ1.is ∙ space-KZ1 in
    subst (λ X. IfOk c.ints_simplex_face.result (λ y. form y X ≡ (set_of X).face c.args.i (form c.args.x.now X))) (sym e) c.ints_simplex_face.ensures.form

pub returns-in-KZ1-clause-simplex : goal.returns-in-KZ1-clause-simplex
returns-in-KZ1-clause-simplex t c =
    let e = ap space_of c.in-KZ1.is ∙ space-KZ1 in
    subst (λ X. IfOk c.ints_simplex_face.result (IsSimplex X (degree_of c.args.x.now - 1))) (sym e) c.ints_simplex_face.ensures.simplex

pub returns-in_ok-copy_cell-in-Absorbed-clause-form : goal.returns-in_ok-copy_cell-in-Absorbed-clause-form
returns-in_ok-copy_cell-in-Absorbed-clause-form t c =
    let e = ap space_of c.in-Suspension.is ∙ space-Suspension c.in-Suspension.part in
    (absorbed_face _ _ e c.requires.allowed c.requires.built (degree_of c.args.x.now) c.args.i c.args.x.now c.requires.simplex c.requires.positive c.requires.most c.requires.index
    (record { degens = c.in-Absorbed.degens; cell = c.in_ok-copy_cell-in-Absorbed.field-0 }) c.in-Absorbed.ensures c.in_ok-copy_cell-in-Absorbed.ensures).plain_is

pub returns-in_ok-copy_cell-in-Absorbed-clause-simplex : goal.returns-in_ok-copy_cell-in-Absorbed-clause-simplex
returns-in_ok-copy_cell-in-Absorbed-clause-simplex t c =
    let e = ap space_of c.in-Suspension.is ∙ space-Suspension c.in-Suspension.part in
    (absorbed_face _ _ e c.requires.allowed c.requires.built (degree_of c.args.x.now) c.args.i c.args.x.now c.requires.simplex c.requires.positive c.requires.most c.requires.index
    (record { degens = c.in-Absorbed.degens; cell = c.in_ok-copy_cell-in-Absorbed.field-0 }) c.in-Absorbed.ensures c.in_ok-copy_cell-in-Absorbed.ensures).simplex

pub overflow_sub-dim : goal.overflow_sub-dim
overflow_sub-dim t c =
    let e = ap space_of c.in-Suspension.is ∙ space-Suspension c.in-Suspension.part in
    subst (λ m. 1 ≤ m) (sym c.dim.ensures) (positive_dim _ _ e c.requires.allowed c.requires.built (degree_of c.args.x.now) c.args.i c.args.x.now c.requires.simplex c.requires.positive c.requires.most c.requires.index c.in-Through.j (mask_word c.in-Through.degens.mask) c.in-Through.ensures)

pub degenerate_vertex-requires : goal.degenerate_vertex-requires
degenerate_vertex-requires t c =
    let e = ap space_of c.in-Suspension.is ∙ space-Suspension c.in-Suspension.part in
    subst (λ m. m - 1 < 32) (sym c.dim.ensures) (low_dim _ _ e c.requires.allowed c.requires.built (degree_of c.args.x.now) c.args.i c.args.x.now c.requires.simplex c.requires.positive c.requires.most c.requires.index c.in-Through.j (mask_word c.in-Through.degens.mask) c.in-Through.ensures)

pub before-requires : goal.before-requires
before-requires t c =
    let e = ap space_of c.in-Suspension.is ∙ space-Suspension c.in-Suspension.part in
    let first = first_face _ _ e c.requires.allowed c.requires.built (degree_of c.args.x.now) c.args.i c.args.x.now c.requires.simplex c.requires.positive c.requires.most c.requires.index c.in-Through.j (mask_word c.in-Through.degens.mask) c.in-Through.ensures c.degenerate_vertex.result c.if-j-eq0.true
    (c.degenerate_vertex.ensures.mask ∙ ap (λ m. all_degeneracies (m - 1)) c.dim.ensures) c.degenerate_vertex.ensures.cell in
    words_fit _ _ e c.requires.allowed c.requires.built (degree_of c.args.x.now) c.args.i c.args.x.now c.requires.simplex c.requires.positive c.requires.most c.requires.index c.in-Through.j (mask_word c.in-Through.degens.mask) c.in-Through.ensures c.degenerate_vertex.result first

pub returns-then-j-eq0-clause-form : goal.returns-then-j-eq0-clause-form
returns-then-j-eq0-clause-form t c =
    let e = ap space_of c.in-Suspension.is ∙ space-Suspension c.in-Suspension.part in
    let first = first_face _ _ e c.requires.allowed c.requires.built (degree_of c.args.x.now) c.args.i c.args.x.now c.requires.simplex c.requires.positive c.requires.most c.requires.index c.in-Through.j (mask_word c.in-Through.degens.mask) c.in-Through.ensures c.degenerate_vertex.result c.if-j-eq0.true
    (c.degenerate_vertex.ensures.mask ∙ ap (λ m. all_degeneracies (m - 1)) c.dim.ensures) c.degenerate_vertex.ensures.cell in
    (face_before _ _ e c.requires.allowed c.requires.built (degree_of c.args.x.now) c.args.i c.args.x.now c.requires.simplex c.requires.positive c.requires.most c.requires.index c.in-Through.j (mask_word c.in-Through.degens.mask) c.in-Through.ensures c.degenerate_vertex.result c.before-then-j-eq0.result first
    c.before-then-j-eq0.ensures.mask c.before-then-j-eq0.ensures.cell).plain_is

pub returns-then-j-eq0-clause-simplex : goal.returns-then-j-eq0-clause-simplex
returns-then-j-eq0-clause-simplex t c =
    let e = ap space_of c.in-Suspension.is ∙ space-Suspension c.in-Suspension.part in
    let first = first_face _ _ e c.requires.allowed c.requires.built (degree_of c.args.x.now) c.args.i c.args.x.now c.requires.simplex c.requires.positive c.requires.most c.requires.index c.in-Through.j (mask_word c.in-Through.degens.mask) c.in-Through.ensures c.degenerate_vertex.result c.if-j-eq0.true
    (c.degenerate_vertex.ensures.mask ∙ ap (λ m. all_degeneracies (m - 1)) c.dim.ensures) c.degenerate_vertex.ensures.cell in
    (face_before _ _ e c.requires.allowed c.requires.built (degree_of c.args.x.now) c.args.i c.args.x.now c.requires.simplex c.requires.positive c.requires.most c.requires.index c.in-Through.j (mask_word c.in-Through.degens.mask) c.in-Through.ensures c.degenerate_vertex.result c.before-then-j-eq0.result first
    c.before-then-j-eq0.ensures.mask c.before-then-j-eq0.ensures.cell).simplex

pub cell_under-requires : goal.cell_under-requires
cell_under-requires t c =
    let e = ap space_of c.in-Suspension.is ∙ space-Suspension c.in-Suspension.part in
    up_of _ _ e c.requires.allowed c.requires.built (degree_of c.args.x.now) c.args.i c.args.x.now c.requires.simplex c.requires.positive c.requires.most c.requires.index c.in-Through.j (mask_word c.in-Through.degens.mask) c.in-Through.ensures

pub face_of-requires : goal.face_of-requires
face_of-requires t c =
    let e = ap space_of c.in-Suspension.is ∙ space-Suspension c.in-Suspension.part in
    let same = ap space_of (sym c.get.ensures) in
    let deeper : space_depth (space_of c.args.t.now) ≡ suc (space_depth (space_of c.in-Suspension.part)) = ap space_depth e in
    let level : space_depth (space_of c.in-Suspension.part) ≡ space_depth (space_of c.get.result.now) = ap space_depth same in (
      omega (arith, c.decreases, deeper, level),
      (
        subst IsAllowed same (allowed_part _ _ e c.requires.allowed c.requires.built),
        (
          subst IsBuilt same (built_part _ _ e c.requires.allowed c.requires.built),
          (
            subst (λ X. IsSimplex X (degree_of c.in_ok-under-in-Through.under) c.in_ok-under-in-Through.under) same (under_simplex _ _ e c.requires.allowed c.requires.built (degree_of c.args.x.now) c.args.i c.args.x.now c.requires.simplex c.requires.positive c.requires.most c.requires.index c.in-Through.j (mask_word c.in-Through.degens.mask) c.in-Through.ensures
                c.in_ok-under-in-Through.under c.in_ok-under-in-Through.ensures.mask c.in_ok-under-in-Through.ensures.cell),
            (
              under_positive _ _ e c.requires.allowed c.requires.built (degree_of c.args.x.now) c.args.i c.args.x.now c.requires.simplex c.requires.positive c.requires.most c.requires.index c.in-Through.j (mask_word c.in-Through.degens.mask) c.in-Through.ensures
                  c.in_ok-under-in-Through.under c.in_ok-under-in-Through.ensures.mask c.in_ok-under-in-Through.ensures.cell,
              (
                under_most _ _ e c.requires.allowed c.requires.built (degree_of c.args.x.now) c.args.i c.args.x.now c.requires.simplex c.requires.positive c.requires.most c.requires.index c.in-Through.j (mask_word c.in-Through.degens.mask) c.in-Through.ensures
                    c.in_ok-under-in-Through.under c.in_ok-under-in-Through.ensures.mask c.in_ok-under-in-Through.ensures.cell,
                (
                  under_index _ _ e c.requires.allowed c.requires.built (degree_of c.args.x.now) c.args.i c.args.x.now c.requires.simplex c.requires.positive c.requires.most c.requires.index c.in-Through.j (mask_word c.in-Through.degens.mask) c.in-Through.ensures
                      c.in_ok-under-in-Through.under c.in_ok-under-in-Through.ensures.mask c.in_ok-under-in-Through.ensures.cell,
                  under_integers _ _ e c.requires.allowed c.requires.built (degree_of c.args.x.now) c.args.i c.args.x.now c.requires.simplex c.requires.positive c.requires.most c.requires.index c.in-Through.j (mask_word c.in-Through.degens.mask) c.in-Through.ensures
                      c.in_ok-under-in-Through.under c.in_ok-under-in-Through.ensures.mask c.in_ok-under-in-Through.ensures.cell c.requires.integers,
                ),
              ),
            ),
          ),
        ),
      ),
    )

pub raised-requires-clause-degree : goal.raised-requires-clause-degree
raised-requires-clause-degree t c =
    let e = ap space_of c.in-Suspension.is ∙ space-Suspension c.in-Suspension.part in
    let y = c.in_ok-face-in-Through.face in
    let y_simplex = subst (λ X. IsSimplex X (degree_of c.in_ok-under-in-Through.under - 1) y) (ap space_of c.get.ensures) c.in_ok-face-in-Through.ensures.simplex in
    let y_is = subst (λ X. form y X ≡ (set_of X).face (c.in-Through.j - 1) (form c.in_ok-under-in-Through.under X)) (ap space_of c.get.ensures) c.in_ok-face-in-Through.ensures.form in
    face_degree _ _ e c.requires.allowed c.requires.built (degree_of c.args.x.now) c.args.i c.args.x.now c.requires.simplex c.requires.positive c.requires.most c.requires.index c.in-Through.j (mask_word c.in-Through.degens.mask) c.in-Through.ensures
    c.in_ok-under-in-Through.under c.in_ok-under-in-Through.ensures.mask c.in_ok-under-in-Through.ensures.cell y y_simplex y_is

pub raised-requires-clause-room : goal.raised-requires-clause-room
raised-requires-clause-room t c =
    let e = ap space_of c.in-Suspension.is ∙ space-Suspension c.in-Suspension.part in
    let y = c.in_ok-face-in-Through.face in
    let y_simplex = subst (λ X. IsSimplex X (degree_of c.in_ok-under-in-Through.under - 1) y) (ap space_of c.get.ensures) c.in_ok-face-in-Through.ensures.simplex in
    let y_is = subst (λ X. form y X ≡ (set_of X).face (c.in-Through.j - 1) (form c.in_ok-under-in-Through.under X)) (ap space_of c.get.ensures) c.in_ok-face-in-Through.ensures.form in
    face_mask _ _ e c.requires.allowed c.requires.built (degree_of c.args.x.now) c.args.i c.args.x.now c.requires.simplex c.requires.positive c.requires.most c.requires.index c.in-Through.j (mask_word c.in-Through.degens.mask) c.in-Through.ensures
    c.in_ok-under-in-Through.under c.in_ok-under-in-Through.ensures.mask c.in_ok-under-in-Through.ensures.cell y y_simplex y_is

pub before-requires-in-Through : goal.before-requires-in-Through
before-requires-in-Through t c =
    let e = ap space_of c.in-Suspension.is ∙ space-Suspension c.in-Suspension.part in
    let y = c.in_ok-face-in-Through.face in
    let y_simplex = subst (λ X. IsSimplex X (degree_of c.in_ok-under-in-Through.under - 1) y) (ap space_of c.get.ensures) c.in_ok-face-in-Through.ensures.simplex in
    let y_is = subst (λ X. form y X ≡ (set_of X).face (c.in-Through.j - 1) (form c.in_ok-under-in-Through.under X)) (ap space_of c.get.ensures) c.in_ok-face-in-Through.ensures.form in
    let z = c.in_ok-raised-in-Through.field-0 in
    let later = later_face _ _ e c.requires.allowed c.requires.built (degree_of c.args.x.now) c.args.i c.args.x.now c.requires.simplex c.requires.positive c.requires.most c.requires.index c.in-Through.j (mask_word c.in-Through.degens.mask) c.in-Through.ensures
    c.in_ok-under-in-Through.under c.in_ok-under-in-Through.ensures.mask c.in_ok-under-in-Through.ensures.cell y y_simplex y_is z c.if-j-eq0.false c.in_ok-raised-in-Through.ensures.base c.in_ok-raised-in-Through.ensures.up in
    words_fit _ _ e c.requires.allowed c.requires.built (degree_of c.args.x.now) c.args.i c.args.x.now c.requires.simplex c.requires.positive c.requires.most c.requires.index c.in-Through.j (mask_word c.in-Through.degens.mask) c.in-Through.ensures z later

pub returns-in_ok-raised-in-Through-clause-form : goal.returns-in_ok-raised-in-Through-clause-form
returns-in_ok-raised-in-Through-clause-form t c =
    let e = ap space_of c.in-Suspension.is ∙ space-Suspension c.in-Suspension.part in
    let y = c.in_ok-face-in-Through.face in
    let y_simplex = subst (λ X. IsSimplex X (degree_of c.in_ok-under-in-Through.under - 1) y) (ap space_of c.get.ensures) c.in_ok-face-in-Through.ensures.simplex in
    let y_is = subst (λ X. form y X ≡ (set_of X).face (c.in-Through.j - 1) (form c.in_ok-under-in-Through.under X)) (ap space_of c.get.ensures) c.in_ok-face-in-Through.ensures.form in
    let z = c.in_ok-raised-in-Through.field-0 in
    let later = later_face _ _ e c.requires.allowed c.requires.built (degree_of c.args.x.now) c.args.i c.args.x.now c.requires.simplex c.requires.positive c.requires.most c.requires.index c.in-Through.j (mask_word c.in-Through.degens.mask) c.in-Through.ensures
    c.in_ok-under-in-Through.under c.in_ok-under-in-Through.ensures.mask c.in_ok-under-in-Through.ensures.cell y y_simplex y_is z c.if-j-eq0.false c.in_ok-raised-in-Through.ensures.base c.in_ok-raised-in-Through.ensures.up in
    (face_before _ _ e c.requires.allowed c.requires.built (degree_of c.args.x.now) c.args.i c.args.x.now c.requires.simplex c.requires.positive c.requires.most c.requires.index c.in-Through.j (mask_word c.in-Through.degens.mask) c.in-Through.ensures z c.before-in-Through.result later c.before-in-Through.ensures.mask c.before-in-Through.ensures.cell).plain_is

pub returns-in_ok-raised-in-Through-clause-simplex : goal.returns-in_ok-raised-in-Through-clause-simplex
returns-in_ok-raised-in-Through-clause-simplex t c =
    let e = ap space_of c.in-Suspension.is ∙ space-Suspension c.in-Suspension.part in
    let y = c.in_ok-face-in-Through.face in
    let y_simplex = subst (λ X. IsSimplex X (degree_of c.in_ok-under-in-Through.under - 1) y) (ap space_of c.get.ensures) c.in_ok-face-in-Through.ensures.simplex in
    let y_is = subst (λ X. form y X ≡ (set_of X).face (c.in-Through.j - 1) (form c.in_ok-under-in-Through.under X)) (ap space_of c.get.ensures) c.in_ok-face-in-Through.ensures.form in
    let z = c.in_ok-raised-in-Through.field-0 in
    let later = later_face _ _ e c.requires.allowed c.requires.built (degree_of c.args.x.now) c.args.i c.args.x.now c.requires.simplex c.requires.positive c.requires.most c.requires.index c.in-Through.j (mask_word c.in-Through.degens.mask) c.in-Through.ensures
    c.in_ok-under-in-Through.under c.in_ok-under-in-Through.ensures.mask c.in_ok-under-in-Through.ensures.cell y y_simplex y_is z c.if-j-eq0.false c.in_ok-raised-in-Through.ensures.base c.in_ok-raised-in-Through.ensures.up in
    (face_before _ _ e c.requires.allowed c.requires.built (degree_of c.args.x.now) c.args.i c.args.x.now c.requires.simplex c.requires.positive c.requires.most c.requires.index c.in-Through.j (mask_word c.in-Through.degens.mask) c.in-Through.ensures z c.before-in-Through.result later c.before-in-Through.ensures.mask c.before-in-Through.ensures.cell).simplex

-- ---- bundles and products

pub bundle_face-requires-clause-allowed : goal.bundle_face-requires-clause-allowed
bundle_face-requires-clause-allowed t c =
    let e = ap space_of c.in-Bundle.is ∙ space-Bundle _ _ in
    subst IsAllowed e c.requires.allowed

pub bundle_face-requires-clause-simplex : goal.bundle_face-requires-clause-simplex
bundle_face-requires-clause-simplex t c =
    let e = ap space_of c.in-Bundle.is ∙ space-Bundle _ _ in
    subst (λ X. IsSimplex X (degree_of c.args.x.now) c.args.x.now) e c.requires.simplex

pub returns-in_ok-bundle_face-in-Bundle-clause-form : goal.returns-in_ok-bundle_face-in-Bundle-clause-form
returns-in_ok-bundle_face-in-Bundle-clause-form t c =
    let e = ap space_of c.in-Bundle.is ∙ space-Bundle _ _ in
    subst (λ X. form c.in_ok-bundle_face-in-Bundle.field-0 X ≡ (set_of X).face c.args.i (form c.args.x.now X)) (sym e) c.in_ok-bundle_face-in-Bundle.ensures.form

pub returns-in_ok-bundle_face-in-Bundle-clause-simplex : goal.returns-in_ok-bundle_face-in-Bundle-clause-simplex
returns-in_ok-bundle_face-in-Bundle-clause-simplex t c =
    let e = ap space_of c.in-Bundle.is ∙ space-Bundle _ _ in
    subst (λ X. IsSimplex X (degree_of c.args.x.now - 1) c.in_ok-bundle_face-in-Bundle.field-0) (sym e) c.in_ok-bundle_face-in-Bundle.ensures.simplex

pub parts_of-requires : goal.parts_of-requires
parts_of-requires t c =
    let e = ap space_of c.in-Product.is ∙ space-Product c.in-Product.a c.in-Product.b in
    P.has_parts (space_of c.in-Product.a) (space_of c.in-Product.b) (space_of c.args.t.now) e c.requires.allowed c.requires.built (degree_of c.args.x.now) c.args.x.now c.requires.simplex c.requires.positive c.requires.most

pub face_of-requires-in-Product : goal.face_of-requires-in-Product
face_of-requires-in-Product t c =
    let e = ap space_of c.in-Product.is ∙ space-Product c.in-Product.a c.in-Product.b in
    let same = ap space_of (sym c.get-in-Product.ensures) in
    let d = P.left_degree (space_of c.in-Product.a) (space_of c.in-Product.b) (space_of c.args.t.now) e c.requires.allowed c.requires.built (degree_of c.args.x.now) c.args.x.now c.requires.simplex c.requires.positive c.requires.most c.in_ok-left-in-Product.left c.in_ok-left-in-Product.right c.in_ok-left-in-Product.ensures in
    let deeper : space_depth (space_of c.args.t.now) ≡ suc (max (space_depth (space_of c.in-Product.a)) (space_depth (space_of c.in-Product.b))) = ap space_depth e in
    let level : space_depth (space_of c.in-Product.a) ≡ space_depth (space_of c.get-in-Product.result.now) = ap space_depth same in (
      omega (arith, c.decreases, deeper, level),
      (
        subst IsAllowed same (P.allowed_left (space_of c.in-Product.a) (space_of c.in-Product.b) (space_of c.args.t.now) e c.requires.allowed c.requires.built),
        (
          subst IsBuilt same (P.built_left (space_of c.in-Product.a) (space_of c.in-Product.b) (space_of c.args.t.now) e c.requires.allowed c.requires.built),
          (
            subst (λ X. IsSimplex X (degree_of c.in_ok-left-in-Product.left) c.in_ok-left-in-Product.left) same (P.left_simplex (space_of c.in-Product.a) (space_of c.in-Product.b) (space_of c.args.t.now) e c.requires.allowed c.requires.built (degree_of c.args.x.now) c.args.x.now c.requires.simplex c.requires.positive c.requires.most c.in_ok-left-in-Product.left c.in_ok-left-in-Product.right c.in_ok-left-in-Product.ensures),
            (
              omega (arith, d, c.requires.positive),
              (
                omega (arith, d, c.requires.most),
                (
                  omega (arith, d, c.requires.index),
                  P.left_integers (space_of c.in-Product.a) (space_of c.in-Product.b) (space_of c.args.t.now) e c.requires.allowed c.requires.built (degree_of c.args.x.now) c.args.x.now c.requires.simplex c.requires.positive c.requires.most c.in_ok-left-in-Product.left c.in_ok-left-in-Product.right c.in_ok-left-in-Product.ensures (2 ^ 40) c.requires.integers,
                ),
              ),
            ),
          ),
        ),
      ),
    )

pub face_of-requires-in-Product-2 : goal.face_of-requires-in-Product-2
face_of-requires-in-Product-2 t c =
    let e = ap space_of c.in-Product.is ∙ space-Product c.in-Product.a c.in-Product.b in
    let same = ap space_of (sym c.get-in-Product-2.ensures) in
    let d = P.right_degree (space_of c.in-Product.a) (space_of c.in-Product.b) (space_of c.args.t.now) e c.requires.allowed c.requires.built (degree_of c.args.x.now) c.args.x.now c.requires.simplex c.requires.positive c.requires.most c.in_ok-left-in-Product.left c.in_ok-left-in-Product.right c.in_ok-left-in-Product.ensures in
    let deeper : space_depth (space_of c.args.t.now) ≡ suc (max (space_depth (space_of c.in-Product.a)) (space_depth (space_of c.in-Product.b))) = ap space_depth e in
    let level : space_depth (space_of c.in-Product.b) ≡ space_depth (space_of c.get-in-Product-2.result.now) = ap space_depth same in (
      omega (arith, c.decreases, deeper, level),
      (
        subst IsAllowed same (P.allowed_right (space_of c.in-Product.a) (space_of c.in-Product.b) (space_of c.args.t.now) e c.requires.allowed c.requires.built),
        (
          subst IsBuilt same (P.built_right (space_of c.in-Product.a) (space_of c.in-Product.b) (space_of c.args.t.now) e c.requires.allowed c.requires.built),
          (
            subst (λ X. IsSimplex X (degree_of c.in_ok-left-in-Product.right) c.in_ok-left-in-Product.right) same (P.right_simplex (space_of c.in-Product.a) (space_of c.in-Product.b) (space_of c.args.t.now) e c.requires.allowed c.requires.built (degree_of c.args.x.now) c.args.x.now c.requires.simplex c.requires.positive c.requires.most c.in_ok-left-in-Product.left c.in_ok-left-in-Product.right c.in_ok-left-in-Product.ensures),
            (
              omega (arith, d, c.requires.positive),
              (
                omega (arith, d, c.requires.most),
                (
                  omega (arith, d, c.requires.index),
                  P.right_integers (space_of c.in-Product.a) (space_of c.in-Product.b) (space_of c.args.t.now) e c.requires.allowed c.requires.built (degree_of c.args.x.now) c.args.x.now c.requires.simplex c.requires.positive c.requires.most c.in_ok-left-in-Product.left c.in_ok-left-in-Product.right c.in_ok-left-in-Product.ensures (2 ^ 40) c.requires.integers,
                ),
              ),
            ),
          ),
        ),
      ),
    )

pub returns-in_ok-paired-in-Product-clause-form : goal.returns-in_ok-paired-in-Product-clause-form
returns-in_ok-paired-in-Product-clause-form t c =
    let e = ap space_of c.in-Product.is ∙ space-Product c.in-Product.a c.in-Product.b in
    let l = c.in_ok-left-in-Product.left in
    let r = c.in_ok-left-in-Product.right in
    let u = c.in_ok-left_face-in-Product.left_face in
    let v = c.in_ok-right_face-in-Product.right_face in
    let us = subst (λ X. IsSimplex X (degree_of l - 1) u) (ap space_of c.get-in-Product.ensures) c.in_ok-left_face-in-Product.ensures.simplex in
    let u_is = subst (λ X. form u X ≡ (set_of X).face c.args.i (form l X)) (ap space_of c.get-in-Product.ensures) c.in_ok-left_face-in-Product.ensures.form in
    let vs = subst (λ X. IsSimplex X (degree_of r - 1) v) (ap space_of c.get-in-Product-2.ensures) c.in_ok-right_face-in-Product.ensures.simplex in
    let v_is = subst (λ X. form v X ≡ (set_of X).face c.args.i (form r X)) (ap space_of c.get-in-Product-2.ensures) c.in_ok-right_face-in-Product.ensures.form in
    (P.product_face (space_of c.in-Product.a) (space_of c.in-Product.b) (space_of c.args.t.now) e c.requires.allowed c.requires.built (degree_of c.args.x.now) c.args.x.now c.requires.simplex c.requires.positive c.requires.most c.in_ok-left-in-Product.left c.in_ok-left-in-Product.right c.in_ok-left-in-Product.ensures c.args.i u v c.in_ok-paired-in-Product.field-0 us u_is vs v_is c.in_ok-paired-in-Product.ensures).plain_is

pub returns-in_ok-paired-in-Product-clause-simplex : goal.returns-in_ok-paired-in-Product-clause-simplex
returns-in_ok-paired-in-Product-clause-simplex t c =
    let e = ap space_of c.in-Product.is ∙ space-Product c.in-Product.a c.in-Product.b in
    let l = c.in_ok-left-in-Product.left in
    let r = c.in_ok-left-in-Product.right in
    let u = c.in_ok-left_face-in-Product.left_face in
    let v = c.in_ok-right_face-in-Product.right_face in
    let us = subst (λ X. IsSimplex X (degree_of l - 1) u) (ap space_of c.get-in-Product.ensures) c.in_ok-left_face-in-Product.ensures.simplex in
    let u_is = subst (λ X. form u X ≡ (set_of X).face c.args.i (form l X)) (ap space_of c.get-in-Product.ensures) c.in_ok-left_face-in-Product.ensures.form in
    let vs = subst (λ X. IsSimplex X (degree_of r - 1) v) (ap space_of c.get-in-Product-2.ensures) c.in_ok-right_face-in-Product.ensures.simplex in
    let v_is = subst (λ X. form v X ≡ (set_of X).face c.args.i (form r X)) (ap space_of c.get-in-Product-2.ensures) c.in_ok-right_face-in-Product.ensures.form in
    (P.product_face (space_of c.in-Product.a) (space_of c.in-Product.b) (space_of c.args.t.now) e c.requires.allowed c.requires.built (degree_of c.args.x.now) c.args.x.now c.requires.simplex c.requires.positive c.requires.most c.in_ok-left-in-Product.left c.in_ok-left-in-Product.right c.in_ok-left-in-Product.ensures c.args.i u v c.in_ok-paired-in-Product.field-0 us u_is vs v_is c.in_ok-paired-in-Product.ensures).simplex
