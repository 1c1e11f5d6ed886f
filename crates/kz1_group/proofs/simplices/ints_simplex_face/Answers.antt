use Rattle.std.proofs.Common.{refl}
use Rattle.cells.specs.Dim.{degree_of}
use Rattle.simp_ops.specs.Bits.{mask_word}
use Rattle.kz1_group.proofs.ListFaces.{a_list, absorbed_face, list_summable, list_some, list_index, face_short, words_fit, reached_face, reached_within}
use Rattle.kz1_group.proofs.simplices.ints_simplex_face.Goals as goal

pub unreachable-requires : goal.unreachable-requires
unreachable-requires c = let s = a_list _ c.args.x.now c.requires.simplex in c.in_default.not-Ints s.0 s.1

pub ints_face-requires-clause-some : goal.ints_face-requires-clause-some
ints_face-requires-clause-some c =
    list_some (degree_of c.args.x.now) c.args.i c.args.x.now c.in-Ints.list c.requires.simplex c.requires.positive c.requires.most c.requires.index c.in-Ints.is
    c.in-Through.j (mask_word c.in-Through.degens.mask) c.in-Through.ensures

pub ints_face-requires-clause-index : goal.ints_face-requires-clause-index
ints_face-requires-clause-index c =
    list_index (degree_of c.args.x.now) c.args.i c.args.x.now c.in-Ints.list c.requires.simplex c.requires.positive c.requires.most c.requires.index c.in-Ints.is
    c.in-Through.j (mask_word c.in-Through.degens.mask) c.in-Through.ensures

pub ints_face-requires-clause-summable : goal.ints_face-requires-clause-summable
ints_face-requires-clause-summable c =
    list_summable (degree_of c.args.x.now) c.args.i c.args.x.now c.in-Ints.list c.requires.simplex c.requires.positive c.requires.most c.requires.index c.in-Ints.is
    c.requires.integers

pub ints_norm-requires : goal.ints_norm-requires
ints_norm-requires c =
    face_short (degree_of c.args.x.now) c.args.i c.args.x.now c.in-Ints.list c.requires.simplex c.requires.positive c.requires.most c.requires.index c.in-Ints.is
    c.in-Through.j (mask_word c.in-Through.degens.mask) c.in-Through.ensures c.in_ok-ints_face-in-Through.field-0 c.in_ok-ints_face-in-Through.ensures

pub compose-requires : goal.compose-requires
compose-requires c =
    words_fit (degree_of c.args.x.now) c.args.i c.args.x.now c.in-Ints.list c.requires.simplex c.requires.positive c.requires.most c.requires.index c.in-Ints.is
    c.in-Through.j (mask_word c.in-Through.degens.mask) c.in-Through.ensures c.in_ok-ints_face-in-Through.field-0 c.in_ok-ints_face-in-Through.ensures
    c.in_ok-face-in-Through.face c.in_ok-face-in-Through.ensures.form c.in_ok-face-in-Through.ensures.simplex

pub returns-in_ok-copy_cell-in-Absorbed-clause-form : goal.returns-in_ok-copy_cell-in-Absorbed-clause-form
returns-in_ok-copy_cell-in-Absorbed-clause-form c =
    (absorbed_face (degree_of c.args.x.now) c.args.i c.args.x.now c.in-Ints.list c.requires.simplex c.requires.positive c.requires.most c.requires.index c.in-Ints.is
    (record { degens = c.in-Absorbed.degens; cell = c.in_ok-copy_cell-in-Absorbed.field-0 }) c.in-Absorbed.ensures c.in_ok-copy_cell-in-Absorbed.ensures).plain_is

pub returns-in_ok-copy_cell-in-Absorbed-clause-simplex : goal.returns-in_ok-copy_cell-in-Absorbed-clause-simplex
returns-in_ok-copy_cell-in-Absorbed-clause-simplex c =
    (absorbed_face (degree_of c.args.x.now) c.args.i c.args.x.now c.in-Ints.list c.requires.simplex c.requires.positive c.requires.most c.requires.index c.in-Ints.is
    (record { degens = c.in-Absorbed.degens; cell = c.in_ok-copy_cell-in-Absorbed.field-0 }) c.in-Absorbed.ensures c.in_ok-copy_cell-in-Absorbed.ensures).simplex

pub returns-in_ok-face-in-Through-clause-form : goal.returns-in_ok-face-in-Through-clause-form
returns-in_ok-face-in-Through-clause-form c =
    (reached_face (degree_of c.args.x.now) c.args.i c.args.x.now c.in-Ints.list c.requires.simplex c.requires.positive c.requires.most c.requires.index c.in-Ints.is
    c.in-Through.j (mask_word c.in-Through.degens.mask) c.in-Through.ensures c.in_ok-ints_face-in-Through.field-0 c.in_ok-ints_face-in-Through.ensures
    c.in_ok-face-in-Through.face c.in_ok-face-in-Through.ensures.form c.in_ok-face-in-Through.ensures.simplex
    (record { degens = c.compose.result; cell = c.in_ok-face-in-Through.face.cell }) c.compose.ensures refl).plain_is

pub returns-in_ok-face-in-Through-clause-simplex : goal.returns-in_ok-face-in-Through-clause-simplex
returns-in_ok-face-in-Through-clause-simplex c =
    (reached_face (degree_of c.args.x.now) c.args.i c.args.x.now c.in-Ints.list c.requires.simplex c.requires.positive c.requires.most c.requires.index c.in-Ints.is
    c.in-Through.j (mask_word c.in-Through.degens.mask) c.in-Through.ensures c.in_ok-ints_face-in-Through.field-0 c.in_ok-ints_face-in-Through.ensures
    c.in_ok-face-in-Through.face c.in_ok-face-in-Through.ensures.form c.in_ok-face-in-Through.ensures.simplex
    (record { degens = c.compose.result; cell = c.in_ok-face-in-Through.face.cell }) c.compose.ensures refl).simplex

pub returns-in_ok-face-in-Through-clause-integers : goal.returns-in_ok-face-in-Through-clause-integers
returns-in_ok-face-in-Through-clause-integers c =
    reached_within (degree_of c.args.x.now) c.args.i c.args.x.now c.in-Ints.list c.requires.simplex c.requires.positive c.requires.most c.requires.index c.in-Ints.is
    c.in-Through.j (mask_word c.in-Through.degens.mask) c.in-Through.ensures c.in_ok-ints_face-in-Through.field-0 c.in_ok-ints_face-in-Through.ensures
    c.in_ok-face-in-Through.face c.in_ok-face-in-Through.ensures.form c.in_ok-face-in-Through.ensures.simplex c.in_ok-face-in-Through.ensures.integers
