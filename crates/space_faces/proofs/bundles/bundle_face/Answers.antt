use Rattle.std.proofs.Common.{arith, ◌^◌}
use Rattle.cells.specs.Dim.{degree_of}
use Rattle.term_lang.specs.Rows.{rows_of}
use Rattle.space_faces.proofs.BundleFaces as B
use Rattle.space_faces.proofs.bundles.bundle_face.Goals as goal

pub parts_of-requires : goal.parts_of-requires
parts_of-requires c = B.has_parts (rows_of c.args.base.now) c.args.values.now c.requires.allowed (degree_of c.args.x.now) c.args.x.now c.requires.simplex c.requires.positive c.requires.most

pub fibre_face-requires-clause-base : goal.fibre_face-requires-clause-base
fibre_face-requires-clause-base c = B.base_simplex (rows_of c.args.base.now) c.args.values.now c.requires.allowed (degree_of c.args.x.now) c.args.x.now c.requires.simplex c.requires.positive c.requires.most c.in_ok-b.b c.in_ok-b.f c.in_ok-b.ensures

pub fibre_face-requires-clause-fibre : goal.fibre_face-requires-clause-fibre
fibre_face-requires-clause-fibre c = B.fibre_simplex (rows_of c.args.base.now) c.args.values.now c.requires.allowed (degree_of c.args.x.now) c.args.x.now c.requires.simplex c.requires.positive c.requires.most c.in_ok-b.b c.in_ok-b.f c.in_ok-b.ensures

pub fibre_face-requires-clause-positive : goal.fibre_face-requires-clause-positive
fibre_face-requires-clause-positive c = let d = B.base_degree (rows_of c.args.base.now) c.args.values.now c.requires.allowed (degree_of c.args.x.now) c.args.x.now c.requires.simplex c.requires.positive c.requires.most c.in_ok-b.b c.in_ok-b.f c.in_ok-b.ensures in omega (arith, d, c.requires.positive)

pub fibre_face-requires-clause-most : goal.fibre_face-requires-clause-most
fibre_face-requires-clause-most c = let d = B.base_degree (rows_of c.args.base.now) c.args.values.now c.requires.allowed (degree_of c.args.x.now) c.args.x.now c.requires.simplex c.requires.positive c.requires.most c.in_ok-b.b c.in_ok-b.f c.in_ok-b.ensures in omega (arith, d, c.requires.most)

pub fibre_face-requires-clause-index : goal.fibre_face-requires-clause-index
fibre_face-requires-clause-index c = let d = B.base_degree (rows_of c.args.base.now) c.args.values.now c.requires.allowed (degree_of c.args.x.now) c.args.x.now c.requires.simplex c.requires.positive c.requires.most c.in_ok-b.b c.in_ok-b.f c.in_ok-b.ensures in omega (arith, d, c.requires.index)

pub table_face-requires-clause-simplex : goal.table_face-requires-clause-simplex
table_face-requires-clause-simplex c = B.base_simplex (rows_of c.args.base.now) c.args.values.now c.requires.allowed (degree_of c.args.x.now) c.args.x.now c.requires.simplex c.requires.positive c.requires.most c.in_ok-b.b c.in_ok-b.f c.in_ok-b.ensures

pub table_face-requires-clause-positive : goal.table_face-requires-clause-positive
table_face-requires-clause-positive c = let d = B.base_degree (rows_of c.args.base.now) c.args.values.now c.requires.allowed (degree_of c.args.x.now) c.args.x.now c.requires.simplex c.requires.positive c.requires.most c.in_ok-b.b c.in_ok-b.f c.in_ok-b.ensures in omega (arith, d, c.requires.positive)

pub table_face-requires-clause-most : goal.table_face-requires-clause-most
table_face-requires-clause-most c = let d = B.base_degree (rows_of c.args.base.now) c.args.values.now c.requires.allowed (degree_of c.args.x.now) c.args.x.now c.requires.simplex c.requires.positive c.requires.most c.in_ok-b.b c.in_ok-b.f c.in_ok-b.ensures in omega (arith, d, c.requires.most)

pub table_face-requires-clause-index : goal.table_face-requires-clause-index
table_face-requires-clause-index c = let d = B.base_degree (rows_of c.args.base.now) c.args.values.now c.requires.allowed (degree_of c.args.x.now) c.args.x.now c.requires.simplex c.requires.positive c.requires.most c.in_ok-b.b c.in_ok-b.f c.in_ok-b.ensures in omega (arith, d, c.requires.index)

pub fibre_face-requires-clause-integers : goal.fibre_face-requires-clause-integers
fibre_face-requires-clause-integers c = B.fibre_integers (rows_of c.args.base.now) c.args.values.now c.requires.allowed (degree_of c.args.x.now) c.args.x.now c.requires.simplex c.requires.positive c.requires.most c.in_ok-b.b c.in_ok-b.f c.in_ok-b.ensures (2 ^ 40) c.requires.integers

pub returns-clause-form : goal.returns-clause-form
returns-clause-form c = (B.bundle_faced (rows_of c.args.base.now) c.args.values.now c.requires.allowed (degree_of c.args.x.now) c.args.x.now c.requires.simplex c.requires.positive c.requires.most c.in_ok-b.b c.in_ok-b.f c.in_ok-b.ensures
    c.args.i c.table_face.result c.in_ok-fibre.fibre c.in_ok-paired.field-0 c.table_face.ensures.simplex c.table_face.ensures.form c.in_ok-fibre.ensures.simplex c.in_ok-fibre.ensures.form c.in_ok-paired.ensures).plain_is

pub returns-clause-simplex : goal.returns-clause-simplex
returns-clause-simplex c = (B.bundle_faced (rows_of c.args.base.now) c.args.values.now c.requires.allowed (degree_of c.args.x.now) c.args.x.now c.requires.simplex c.requires.positive c.requires.most c.in_ok-b.b c.in_ok-b.f c.in_ok-b.ensures
    c.args.i c.table_face.result c.in_ok-fibre.fibre c.in_ok-paired.field-0 c.table_face.ensures.simplex c.table_face.ensures.form c.in_ok-fibre.ensures.simplex c.in_ok-fibre.ensures.form c.in_ok-paired.ensures).simplex
