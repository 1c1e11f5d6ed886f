use Rattle.std.proofs.Common.{◌≡◌, ◌<◌, [], length, sym, ◌∙◌, ap, subst}
use Rattle.std.proofs.lemmas.List.{length-map}
use Rattle.simp_ops.specs.Words.{IsWord, compose_words}
use Rattle.simp_ops.specs.Bits.{mask_word}
use Rattle.simp_ops.specs.Past.{passed}
use Rattle.spaces.specs.Tables.{Row as TableRow, RowSimplex, entry, row_at, listed_face, on_row, before_row}
use Rattle.term_lang.specs.Rows.{rows_of, row_of, face_of}
use Rattle.finite_sets.proofs.Entries.{got, row_got, face_got}
use Rattle.finite_sets.proofs.FaceOn.{ComesThrough, comes_through}
use Rattle.finite_sets.proofs.faces.face_on.Goals.{After-get-in-Through, After-unwrap-listed}
use Rattle.finite_sets.proofs.faces.face_on.Goals as goal

comes : (c : After-get-in-Through) → ComesThrough (rows_of c.args.rows.now) (face_of c.args.x) c.in-Through.j (mask_word c.in-Through.degens.mask)
comes c =
    comes_through (rows_of c.args.rows.now) c.args.i (face_of c.args.x) c.in-Through.j (mask_word c.in-Through.degens.mask) c.requires.rows c.requires.face
    (sym c.face_past.ensures ∙ ap passed c.in-Through.is)

row-is : (c : After-get-in-Through) → row_at (rows_of c.args.rows.now) c.args.x.row ≡ row_of c.unwrap.result.now
row-is c = row_got c.args.rows.now c.args.x.row c.unwrap.result.now (got c.get.result c.unwrap.result _ c.get.ensures.value c.unwrap.ensures)

listed-is : (c : After-unwrap-listed) → listed_face (rows_of c.args.rows.now) c.in-Through.j c.args.x.row ≡ face_of c.unwrap-listed.result.now
listed-is c =
    ap (λ (row : TableRow). entry ([], 0) row.faces c.in-Through.j) (row-is (goal.at.After-unwrap-listed c).After-get-in-Through)
    ∙ face_got c.unwrap.result.now.faces c.in-Through.j c.unwrap-listed.result.now
    (got c.get-in-Through.result c.unwrap-listed.result _ c.get-in-Through.ensures.value c.unwrap-listed.ensures)

pub unwrap-listed-requires : goal.unwrap-listed-requires
unwrap-listed-requires c =
    let e = row-is (goal.at.unwrap-listed-requires c).After-get-in-Through in
    let l = ap (λ (row : TableRow). length row.faces) e ∙ length-map c.unwrap.result.now.faces face_of in
    c.get-in-Through.ensures.within.1 (subst (λ n. c.in-Through.j < n) l (comes (goal.at.unwrap-listed-requires c).After-get-in-Through).listed)

pub compose-requires : goal.compose-requires
compose-requires c =
    let e = listed-is (goal.at.compose-requires c).After-unwrap-listed in
    let v = mask_word c.in-Through.degens.mask in
    subst (λ (x : RowSimplex). IsWord 32 (compose_words v x.0)) e (comes (goal.at.compose-requires c).After-get-in-Through).room

pub returns-in-Through : goal.returns-in-Through
returns-in-Through c =
    let t = rows_of c.args.rows.now in
    let v = mask_word c.in-Through.degens.mask in
    let e = listed-is (goal.at.returns-in-Through c).After-unwrap-listed in
    (λ i. (c.compose.ensures i, c.unwrap-listed.result.now.row))
    ∙ sym (ap (on_row t c.args.x.row) (sym c.face_past.ensures ∙ ap passed c.in-Through.is) ∙ ap (before_row v) e)
