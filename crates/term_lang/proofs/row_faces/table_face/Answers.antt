use Rattle.std.proofs.Common.{◌≡◌, ◌<◌, length, sym, ◌∙◌, ap, subst}
use Rattle.std.proofs.lemmas.List.{length-map}
use Rattle.simp_ops.specs.Bits.{mask_word}
use Rattle.simp_ops.specs.Words.{IsWord, compose_words}
use Rattle.spaces.specs.Tables.{row_at, listed_face, on_row}
use Rattle.cells.specs.Dim.{degree_of}
use Rattle.cells.specs.declared.cells.Cell.TheVariants.{Row as RowCell}
use Rattle.term_lang.specs.Rows.{row_of, rows_of}
use Rattle.term_lang.proofs.RowFaces.{some_row, at_row, made, comes_through}
use Rattle.term_lang.proofs.row_faces.table_face.Goals as goal

pub unreachable-requires : goal.unreachable-requires
unreachable-requires c = let k = some_row (rows_of c.args.t.now) c.rows.ensures.form _ c.args.x.now c.requires.simplex in c.in_default.not-Row _ _ k.1.cell

pub before_listed-requires-clause-row : goal.before_listed-requires-clause-row
before_listed-requires-clause-row c =
    let e = c.as_slice-rows.ensures ∙ c.rows.ensures.rows in
    let a = at_row (rows_of c.args.t.now) c.rows.ensures.form _ c.args.x.now _ _ c.requires.simplex c.in-Row.is in
    subst (λ n. c.in-Row.row < n) (length-map c.args.t.now row_of ∙ ap length (sym e)) a.simplex.row

pub before_listed-requires-clause-face : goal.before_listed-requires-clause-face
before_listed-requires-clause-face c =
    let e = c.as_slice-rows.ensures ∙ c.rows.ensures.rows in
    let a = at_row (rows_of c.args.t.now) c.rows.ensures.form _ c.args.x.now _ _ c.requires.simplex c.in-Row.is in
    let p = comes_through (rows_of c.args.t.now) c.rows.ensures.form _ c.args.i _ _ _ _ a.simplex c.requires.positive c.requires.most c.requires.index (sym c.in-Through.ensures) in
    subst (λ l. c.in-Through.j < length (row_at (rows_of l) c.in-Row.row).faces) (sym e) p.face

pub before_listed-requires-clause-fits : goal.before_listed-requires-clause-fits
before_listed-requires-clause-fits c =
    let e = c.as_slice-rows.ensures ∙ c.rows.ensures.rows in
    let a = at_row (rows_of c.args.t.now) c.rows.ensures.form _ c.args.x.now _ _ c.requires.simplex c.in-Row.is in
    let p = comes_through (rows_of c.args.t.now) c.rows.ensures.form _ c.args.i _ _ _ _ a.simplex c.requires.positive c.requires.most c.requires.index (sym c.in-Through.ensures) in
    subst (λ l. IsWord 32 (compose_words (mask_word c.in-Through.degens.mask) (listed_face (rows_of l) c.in-Through.j c.in-Row.row).0)) (sym e) p.fits

pub returns-in-Absorbed-clause-form : goal.returns-in-Absorbed-clause-form
returns-in-Absorbed-clause-form c =
    let a = at_row (rows_of c.args.t.now) c.rows.ensures.form (degree_of c.args.x.now) c.args.x.now _ _ c.requires.simplex c.in-Row.is in
    (made (rows_of c.args.t.now) c.rows.ensures.form (degree_of c.args.x.now) c.args.i c.in-Row.row c.in-Row.row c.args.x.now
    (record { degens = c.in-Absorbed.degens; cell = RowCell c.in-Row.dim c.in-Row.row }) a c.requires.positive c.requires.index (sym c.in-Row.is ∙ a.cell)
    (ap (on_row (rows_of c.args.t.now) c.in-Row.row) c.in-Absorbed.ensures)).plain_is

pub returns-in-Absorbed-clause-simplex : goal.returns-in-Absorbed-clause-simplex
returns-in-Absorbed-clause-simplex c =
    let a = at_row (rows_of c.args.t.now) c.rows.ensures.form (degree_of c.args.x.now) c.args.x.now _ _ c.requires.simplex c.in-Row.is in
    (made (rows_of c.args.t.now) c.rows.ensures.form (degree_of c.args.x.now) c.args.i c.in-Row.row c.in-Row.row c.args.x.now
    (record { degens = c.in-Absorbed.degens; cell = RowCell c.in-Row.dim c.in-Row.row }) a c.requires.positive c.requires.index (sym c.in-Row.is ∙ a.cell)
    (ap (on_row (rows_of c.args.t.now) c.in-Row.row) c.in-Absorbed.ensures)).simplex

pub returns-in-Through-clause-form : goal.returns-in-Through-clause-form
returns-in-Through-clause-form c =
    let e : c.as_slice-rows.result.now ≡ c.args.t.now = c.as_slice-rows.ensures ∙ c.rows.ensures.rows in
    let a = at_row (rows_of c.args.t.now) c.rows.ensures.form (degree_of c.args.x.now) c.args.x.now _ _ c.requires.simplex c.in-Row.is in
    let cell = subst (λ l. c.before_listed.result.cell ≡ RowCell (row_at (rows_of l) (listed_face (rows_of l) c.in-Through.j c.in-Row.row).1).dim (listed_face (rows_of l) c.in-Through.j c.in-Row.row).1) e c.before_listed.ensures.cell in
    let word = subst (λ l. mask_word c.before_listed.result.degens.mask ≡ compose_words (mask_word c.in-Through.degens.mask) (listed_face (rows_of l) c.in-Through.j c.in-Row.row).0) e c.before_listed.ensures.word in
    (made (rows_of c.args.t.now) c.rows.ensures.form (degree_of c.args.x.now) c.args.i c.in-Row.row _ c.args.x.now c.before_listed.result a c.requires.positive c.requires.index cell
    (ap (λ v. (v, (listed_face (rows_of c.args.t.now) c.in-Through.j c.in-Row.row).1)) word ∙ ap (on_row (rows_of c.args.t.now) c.in-Row.row) c.in-Through.ensures)).plain_is

pub returns-in-Through-clause-simplex : goal.returns-in-Through-clause-simplex
returns-in-Through-clause-simplex c =
    let e : c.as_slice-rows.result.now ≡ c.args.t.now = c.as_slice-rows.ensures ∙ c.rows.ensures.rows in
    let a = at_row (rows_of c.args.t.now) c.rows.ensures.form (degree_of c.args.x.now) c.args.x.now _ _ c.requires.simplex c.in-Row.is in
    let cell = subst (λ l. c.before_listed.result.cell ≡ RowCell (row_at (rows_of l) (listed_face (rows_of l) c.in-Through.j c.in-Row.row).1).dim (listed_face (rows_of l) c.in-Through.j c.in-Row.row).1) e c.before_listed.ensures.cell in
    let word = subst (λ l. mask_word c.before_listed.result.degens.mask ≡ compose_words (mask_word c.in-Through.degens.mask) (listed_face (rows_of l) c.in-Through.j c.in-Row.row).0) e c.before_listed.ensures.word in
    (made (rows_of c.args.t.now) c.rows.ensures.form (degree_of c.args.x.now) c.args.i c.in-Row.row _ c.args.x.now c.before_listed.result a c.requires.positive c.requires.index cell
    (ap (λ v. (v, (listed_face (rows_of c.args.t.now) c.in-Through.j c.in-Row.row).1)) word ∙ ap (on_row (rows_of c.args.t.now) c.in-Row.row) c.in-Through.ensures)).simplex
