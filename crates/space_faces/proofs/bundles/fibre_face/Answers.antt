use Rattle.std.proofs.Common.{◌-◌, sym, subst, arith}
use Rattle.spaces.specs.Spaces.{table, kz1}
use Rattle.cells.specs.Dim.{degree_of}
use Rattle.term_lang.specs.Belongs.{IsSimplex}
use Rattle.term_lang.specs.Forms.{form}
use Rattle.term_lang.specs.Rows.{rows_of}
use Rattle.space_faces.proofs.BundleFaces as B
use Rattle.space_faces.proofs.bundles.fibre_face.Goals as goal

pub ints_simplex_face-requires-clause-simplex : goal.ints_simplex_face-requires-clause-simplex
ints_simplex_face-requires-clause-simplex c =
    let d = B.fibre_degree (rows_of c.args.base.now) c.args.values.now c.requires.allowed.0.0 (degree_of c.args.b.now) c.requires.positive c.requires.most c.args.b.now c.args.f.now c.requires.base c.requires.fibre in
    subst (λ m. IsSimplex kz1 m c.args.f.now) (sym d) c.requires.fibre

pub ints_simplex_face-requires-clause-positive : goal.ints_simplex_face-requires-clause-positive
ints_simplex_face-requires-clause-positive c =
    let d = B.fibre_degree (rows_of c.args.base.now) c.args.values.now c.requires.allowed.0.0 (degree_of c.args.b.now) c.requires.positive c.requires.most c.args.b.now c.args.f.now c.requires.base c.requires.fibre in
    omega (arith, d, c.requires.positive)

pub ints_simplex_face-requires-clause-most : goal.ints_simplex_face-requires-clause-most
ints_simplex_face-requires-clause-most c =
    let d = B.fibre_degree (rows_of c.args.base.now) c.args.values.now c.requires.allowed.0.0 (degree_of c.args.b.now) c.requires.positive c.requires.most c.args.b.now c.args.f.now c.requires.base c.requires.fibre in
    omega (arith, d, c.requires.most)

pub ints_simplex_face-requires-clause-index : goal.ints_simplex_face-requires-clause-index
ints_simplex_face-requires-clause-index c =
    let d = B.fibre_degree (rows_of c.args.base.now) c.args.values.now c.requires.allowed.0.0 (degree_of c.args.b.now) c.requires.positive c.requires.most c.args.b.now c.args.f.now c.requires.base c.requires.fibre in
    omega (arith, d, c.requires.index)

pub returns-clause-form : goal.returns-clause-form
returns-clause-form c =
    B.later_fibre (rows_of c.args.base.now) c.args.values.now c.args.i (form c.args.b.now (table (rows_of c.args.base.now))) (form c.args.f.now kz1)
    (form c.in_ok-ints_simplex_face.field-0 kz1) c.if-i-eq0.false c.in_ok-ints_simplex_face.ensures.form

pub returns-clause-simplex : goal.returns-clause-simplex
returns-clause-simplex c =
    let d = B.fibre_degree (rows_of c.args.base.now) c.args.values.now c.requires.allowed.0.0 (degree_of c.args.b.now) c.requires.positive c.requires.most c.args.b.now c.args.f.now c.requires.base c.requires.fibre in
    subst (λ m. IsSimplex kz1 (m - 1) c.in_ok-ints_simplex_face.field-0) d c.in_ok-ints_simplex_face.ensures.simplex
