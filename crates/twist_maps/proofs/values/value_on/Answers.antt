use Rattle.std.proofs.Common.{◌<◌, length, get_or, ℤ, pos, sym, ◌∙◌, ap, subst, rules, SFits, w64}
use Rattle.std.proofs.lemmas.Int.{to_z-of_z}
use Rattle.term_lang.specs.Rows.{rows_of}
use Rattle.term_lang.proofs.RowFaces.{some_row, at_row}
use Rattle.twist_maps.proofs.Triangles.{degenerate_value, row_value}
use Rattle.twist_maps.proofs.values.value_on.Goals as goal

pub unreachable-requires : goal.unreachable-requires
unreachable-requires c = let k = some_row (rows_of c.args.base.now) c.rows.ensures.form 2 c.args.x.now c.requires.simplex in c.in_default.not-Row _ _ k.1.cell

pub returns-then-x-ne0-clause-value : goal.returns-then-x-ne0-clause-value
returns-then-x-ne0-clause-value c =
    let a = at_row (rows_of c.args.base.now) c.rows.ensures.form 2 c.args.x.now _ _ c.requires.simplex c.in-Row.is in
    degenerate_value (rows_of c.args.base.now) c.args.values.now c.args.x.now c.in-Row.row a.plain_is c.if-x-ne0.true

pub bounds-as_slice-row : goal.bounds-as_slice-row
bounds-as_slice-row c =
    let a = at_row (rows_of c.args.base.now) c.rows.ensures.form 2 c.args.x.now _ _ c.requires.simplex c.in-Row.is in
    subst (λ n. c.in-Row.row < n) (sym (ap length c.as_slice.ensures ∙ c.requires.values.as_long)) a.simplex.row

pub returns-clause-value : goal.returns-clause-value
returns-clause-value c =
    let a = at_row (rows_of c.args.base.now) c.rows.ensures.form 2 c.args.x.now _ _ c.requires.simplex c.in-Row.is in
    let v : ℤ = get_or c.as_slice.result.now c.in-Row.row (pos 0) in
    let f : SFits w64 v = search rules in
    to_z-of_z w64 v f ∙ ap (λ l. get_or l c.in-Row.row (pos 0)) c.as_slice.ensures
    ∙ row_value (rows_of c.args.base.now) c.args.values.now c.args.x.now c.in-Row.row a.plain_is c.if-x-ne0.false
