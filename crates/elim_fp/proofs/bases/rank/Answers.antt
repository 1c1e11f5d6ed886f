use Rattle.std.proofs.Common.{◌≡◌, All, length, sym, ◌∙◌, ap, subst}
use Rattle.fp_field.specs.Field.{number}
use Rattle.echelons.specs.Echelon.{in_span, reduced_basis}
use Rattle.elim_fp.specs.Rows.{vectors_of, IsRow}
use Rattle.elim_fp.specs.Tables.{leading_rows}
use Rattle.elim_fp.proofs.TableRank.{table-rank, row-vectors}
use Rattle.elim_fp.proofs.bases.rank.Goals as goal

pub returns : goal.returns
returns c =
    let p = c.prime.result in
    let w = c.width-width.result in
    let given = c.as_slice.result.now in
    let rows : vectors_of given ≡ c.args.m.now.rows = ap vectors_of c.as_slice.ensures ∙ c.rows-rows.ensures.rows in
    let each : All (IsRow p w) given =
    subst (All (IsRow p w)) (sym c.as_slice.ensures) (subst (λ q. All (IsRow q w) c.rows-rows.result.now) (sym c.prime.ensures) (subst (λ n. All (IsRow c.args.m.now.prime n) c.rows-rows.result.now) (sym c.width-width.ensures.width) c.rows-rows.ensures.each)) in
    c.nonzero_count.ensures ∙ ap (λ read. length (leading_rows w read)) c.deref.ensures.value
    ∙ table-rank p w (vectors_of given) c.in_ok-table.table.items c.in_ok-table.ensures.table (row-vectors p w given each) c.in_ok-table.ensures.span
    ∙ (λ i. length (reduced_basis (number (c.prime.ensures i)) (c.width-width.ensures.width i) (in_span (number (c.prime.ensures i)) (c.width-width.ensures.width i) (rows i))))
