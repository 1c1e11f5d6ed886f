use Rattle.std.proofs.Common.{◌-◌, sym, ◌∙◌, ap, subst, arith}
use Rattle.std.proofs.lemmas.List.{length-map}
use Rattle.spaces.specs.Tables.{row_face, listed_face}
use Rattle.term_lang.specs.Rows.{rows_of, row_of}
use Rattle.finite_sets.specs.Progress.{HasFace}
use Rattle.finite_sets.proofs.RowLaws.{listed_has, law_meant, same_face}
use Rattle.finite_sets.proofs.laws.is_law.Goals as goal

pub face_on-requires-clause-face : goal.face_on-requires-clause-face
face_on-requires-clause-face c =
    let l = length-map c.args.rows.now row_of in
    subst (HasFace (rows_of c.args.rows.now) c.args.i) (sym c.listed-y.ensures)
    (listed_has (rows_of c.args.rows.now) c.args.r c.args.i c.args.j c.requires.rows (omega (arith, l)) c.requires.above c.requires.last (omega arith))

pub face_on-requires-2-clause-face : goal.face_on-requires-2-clause-face
face_on-requires-2-clause-face c =
    let l = length-map c.args.rows.now row_of in
    subst (HasFace (rows_of c.args.rows.now) (c.args.j - 1)) (sym c.listed-x.ensures)
    (listed_has (rows_of c.args.rows.now) c.args.r (c.args.j - 1) c.args.i c.requires.rows (omega (arith, l)) c.requires.above (omega arith) (omega arith))

pub returns : goal.returns
returns c =
    let t = rows_of c.args.rows.now in
    c.eq.ensures
    ∙ same_face c.face_on.result c.face_on-2.result (row_face t c.args.i (listed_face t c.args.j c.args.r)) (row_face t (c.args.j - 1) (listed_face t c.args.i c.args.r))
    c.face_on.result.degens.below_32 c.face_on-2.result.degens.below_32
    (c.face_on.ensures ∙ ap (row_face t c.args.i) c.listed-y.ensures) (c.face_on-2.ensures ∙ ap (row_face t (c.args.j - 1)) c.listed-x.ensures)
    ∙ sym (law_meant t c.args.r c.args.i c.args.j c.requires.pair)
