use Rattle.std.proofs.Common.{◌<◌, ◌≤◌, length, get_or, sym, ◌∙◌, ap, subst, rules, SFits, w64}
use Rattle.std.specs.Prelude.{pos, nat_abs}
use Rattle.std.proofs.lemmas.Int.{to_z-of_z}
use Rattle.term_lang.proofs.CocycleRows.{in_faces, within_faces, is_face, entry-get_or, on_face_none, on_face_value, face_row_in, face_row_small}
use Rattle.term_lang.proofs.check.value_on_face.Goals as goal

pub bounds-as_slice-i : goal.bounds-as_slice-i
bounds-as_slice-i c =
    within_faces c.args.base.now c.as_slice.result.now c.as_slice-2.result.now c.index-as_slice-r.result c.args.r c.args.i (c.as_slice.ensures ∙ c.rows.ensures.rows)
    c.requires.row_in c.as_slice-2.ensures (in_faces c.args.base.now c.args.r c.args.i c.rows.ensures.form c.requires.row_in c.requires.face_in)

pub returns-then-face-ne0-clause-value : goal.returns-then-face-ne0-clause-value
returns-then-face-ne0-clause-value c =
    let e =
    is_face c.args.base.now c.as_slice.result.now c.as_slice-2.result.now c.index-as_slice-r.result c.args.r c.args.i (c.as_slice.ensures ∙ c.rows.ensures.rows)
    c.requires.row_in c.as_slice-2.ensures (in_faces c.args.base.now c.args.r c.args.i c.rows.ensures.form c.requires.row_in c.requires.face_in) c.index-as_slice-i.result c.index-as_slice-i.is in
    sym (on_face_none c.args.base.now c.args.values.now c.args.r c.args.i c.index-as_slice-i.result e c.if-face-ne0.true)

pub bounds-as_slice-face : goal.bounds-as_slice-face
bounds-as_slice-face c =
    let e =
    is_face c.args.base.now c.as_slice.result.now c.as_slice-2.result.now c.index-as_slice-r.result c.args.r c.args.i (c.as_slice.ensures ∙ c.rows.ensures.rows)
    c.requires.row_in c.as_slice-2.ensures (in_faces c.args.base.now c.args.r c.args.i c.rows.ensures.form c.requires.row_in c.requires.face_in) c.index-as_slice-i.result c.index-as_slice-i.is in
    subst (λ v. c.index-as_slice-i.result.row < length v) (sym c.as_slice-3.ensures)
    (face_row_in c.args.base.now c.args.values.now c.args.r c.args.i c.index-as_slice-i.result e c.requires.row_in (in_faces c.args.base.now c.args.r c.args.i c.rows.ensures.form c.requires.row_in c.requires.face_in) c.rows.ensures.form c.requires.good)

pub returns-clause-value : goal.returns-clause-value
returns-clause-value c =
    let e =
    is_face c.args.base.now c.as_slice.result.now c.as_slice-2.result.now c.index-as_slice-r.result c.args.r c.args.i (c.as_slice.ensures ∙ c.rows.ensures.rows)
    c.requires.row_in c.as_slice-2.ensures (in_faces c.args.base.now c.args.r c.args.i c.rows.ensures.form c.requires.row_in c.requires.face_in) c.index-as_slice-i.result c.index-as_slice-i.is in
    let f : SFits w64 (get_or c.as_slice-3.result.now c.index-as_slice-i.result.row (pos 0)) = search rules in
    to_z-of_z w64 (get_or c.as_slice-3.result.now c.index-as_slice-i.result.row (pos 0)) f ∙ ap (λ v. get_or v c.index-as_slice-i.result.row (pos 0)) c.as_slice-3.ensures
    ∙ sym (entry-get_or (pos 0) c.args.values.now c.index-as_slice-i.result.row)
    ∙ sym (on_face_value c.args.base.now c.args.values.now c.args.r c.args.i c.index-as_slice-i.result e c.if-face-ne0.false)

pub returns-clause-small : goal.returns-clause-small
returns-clause-small c =
    let e =
    is_face c.args.base.now c.as_slice.result.now c.as_slice-2.result.now c.index-as_slice-r.result c.args.r c.args.i (c.as_slice.ensures ∙ c.rows.ensures.rows)
    c.requires.row_in c.as_slice-2.ensures (in_faces c.args.base.now c.args.r c.args.i c.rows.ensures.form c.requires.row_in c.requires.face_in) c.index-as_slice-i.result c.index-as_slice-i.is in
    let f : SFits w64 (get_or c.as_slice-3.result.now c.index-as_slice-i.result.row (pos 0)) = search rules in
    let g =
    to_z-of_z w64 (get_or c.as_slice-3.result.now c.index-as_slice-i.result.row (pos 0)) f ∙ ap (λ v. get_or v c.index-as_slice-i.result.row (pos 0)) c.as_slice-3.ensures
    ∙ sym (entry-get_or (pos 0) c.args.values.now c.index-as_slice-i.result.row) in
    subst (λ z. nat_abs z ≤ 100000) (sym g)
    (face_row_small c.args.base.now c.args.values.now c.args.r c.args.i c.index-as_slice-i.result e c.requires.row_in (in_faces c.args.base.now c.args.r c.args.i c.rows.ensures.form c.requires.row_in c.requires.face_in) c.rows.ensures.form c.requires.good)
