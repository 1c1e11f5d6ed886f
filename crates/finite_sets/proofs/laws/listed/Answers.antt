use Rattle.std.proofs.Common.{◌≡◌, ◌<◌, [], length, ◌∙◌, ap, subst}
use Rattle.std.proofs.lemmas.List.{length-map}
use Rattle.spaces.specs.Tables.{Row as TableRow, entry, row_at}
use Rattle.term_lang.specs.Rows.{rows_of, row_of, face_of}
use Rattle.finite_sets.proofs.Entries.{got, row_got, face_got}
use Rattle.finite_sets.proofs.laws.listed.Goals.{After-unwrap}
use Rattle.finite_sets.proofs.laws.listed.Goals as goal

row-is : (c : After-unwrap) → row_at (rows_of c.args.rows.now) c.args.r ≡ row_of c.unwrap.result.now
row-is c = row_got c.args.rows.now c.args.r c.unwrap.result.now (got c.get.result c.unwrap.result _ c.get.ensures.value c.unwrap.ensures)

pub unwrap-requires-2 : goal.unwrap-requires-2
unwrap-requires-2 c =
    let l = ap (λ (row : TableRow). length row.faces) (row-is (goal.at.unwrap-requires-2 c).After-unwrap) ∙ length-map c.unwrap.result.now.faces face_of in
    c.get-2.ensures.within.1 (subst (λ n. c.args.j < n) l c.requires.face)

pub returns : goal.returns
returns c =
    let e = ap (λ (row : TableRow). entry ([], 0) row.faces c.args.j) (row-is (goal.at.returns c).After-unwrap) in
    let f = face_got c.unwrap.result.now.faces c.args.j c.unwrap-2.result.now (got c.get-2.result c.unwrap-2.result _ c.get-2.ensures.value c.unwrap-2.ensures) in cc
