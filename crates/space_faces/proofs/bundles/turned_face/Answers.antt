use Rattle.std.proofs.Common.{length, sym, ◌∙◌, ap, subst, arith}
use Rattle.spaces.specs.Nerves.{integers, nerve_times, nerve_face}
use Rattle.spaces.specs.Spaces.{kz1}
use Rattle.cells.specs.Dim.{degree_of}
use Rattle.term_lang.specs.Belongs.{IsSimplex}
use Rattle.term_lang.specs.Rows.{rows_of}
use Rattle.kz1_group.specs.Summable.{IsSummable}
use Rattle.space_faces.proofs.BundleFaces as B
use Rattle.space_faces.proofs.bundles.turned_face.Goals as goal

pub ints_face-requires-clause-some : goal.ints_face-requires-clause-some
ints_face-requires-clause-some c =
    let b = c.args.b.now in
    let size = ap length c.in_ok-list.ensures ∙ B.fibre_length (rows_of c.args.base.now) c.args.values.now c.requires.allowed.0.0 (degree_of b) c.requires.positive c.requires.most b c.args.f.now c.requires.base c.requires.fibre in
    omega (arith, size, c.requires.positive)

pub ints_face-requires-clause-summable : goal.ints_face-requires-clause-summable
ints_face-requires-clause-summable c =
    let b = c.args.b.now in
    subst IsSummable (sym c.in_ok-list.ensures)
    (B.fibre_summable (rows_of c.args.base.now) c.args.values.now c.requires.allowed.0.0 (degree_of b) c.requires.positive c.requires.most b c.args.f.now c.requires.base c.requires.fibre c.requires.integers)

pub cocycle_tau-requires-clause-values : goal.cocycle_tau-requires-clause-values
cocycle_tau-requires-clause-values c = B.values_of (rows_of c.args.base.now) c.args.values.now c.requires.allowed

pub ints_mul-requires-clause-lengths : goal.ints_mul-requires-clause-lengths
ints_mul-requires-clause-lengths c =
    let b = c.args.b.now in
    ap length c.in_ok-tau.ensures.value
    ∙ B.tau_length (rows_of c.args.base.now) c.args.values.now c.requires.allowed.0.0 (degree_of b) c.requires.positive c.requires.most b c.args.f.now c.requires.base c.requires.fibre
    ∙ sym (ap length (c.in_ok-rest.ensures ∙ ap (nerve_face integers 0) c.in_ok-list.ensures)
    ∙ B.face_length (rows_of c.args.base.now) c.args.values.now c.requires.allowed.0.0 (degree_of b) c.requires.positive c.requires.most b c.args.f.now c.requires.base c.requires.fibre)

pub ints_mul-requires-clause-left : goal.ints_mul-requires-clause-left
ints_mul-requires-clause-left c = B.small_summable c.in_ok-tau.tau c.in_ok-tau.ensures.small

pub ints_mul-requires-clause-right : goal.ints_mul-requires-clause-right
ints_mul-requires-clause-right c =
    let b = c.args.b.now in
    subst IsSummable (sym (c.in_ok-rest.ensures ∙ ap (nerve_face integers 0) c.in_ok-list.ensures))
    (B.face_summable (rows_of c.args.base.now) c.args.values.now c.requires.allowed.0.0 (degree_of b) c.requires.positive c.requires.most b c.args.f.now c.requires.base c.requires.fibre c.requires.integers)

pub ints_norm-requires : goal.ints_norm-requires
ints_norm-requires c =
    let b = c.args.b.now in
    let turned = c.in_ok-turned.ensures ∙ (λ i. nerve_times integers (c.in_ok-tau.ensures.value i) ((c.in_ok-rest.ensures ∙ ap (nerve_face integers 0) c.in_ok-list.ensures) i)) in
    let size = ap length turned
    ∙ B.turned_length (rows_of c.args.base.now) c.args.values.now c.requires.allowed.0.0 (degree_of b) c.requires.positive c.requires.most b c.args.f.now c.requires.base c.requires.fibre in
    omega (arith, size, c.requires.most)

pub returns-clause-form : goal.returns-clause-form
returns-clause-form c =
    let turned = c.in_ok-turned.ensures ∙ (λ i. nerve_times integers (c.in_ok-tau.ensures.value i) ((c.in_ok-rest.ensures ∙ ap (nerve_face integers 0) c.in_ok-list.ensures) i)) in
    c.in_ok-ints_norm.ensures.form ∙ turned

pub returns-clause-simplex : goal.returns-clause-simplex
returns-clause-simplex c =
    let b = c.args.b.now in
    let turned = c.in_ok-turned.ensures ∙ (λ i. nerve_times integers (c.in_ok-tau.ensures.value i) ((c.in_ok-rest.ensures ∙ ap (nerve_face integers 0) c.in_ok-list.ensures) i)) in
    subst (λ m. IsSimplex kz1 m c.in_ok-ints_norm.field-0)
    (ap length turned
    ∙ B.turned_length (rows_of c.args.base.now) c.args.values.now c.requires.allowed.0.0 (degree_of b) c.requires.positive c.requires.most b c.args.f.now c.requires.base c.requires.fibre)
    c.in_ok-ints_norm.ensures.simplex
