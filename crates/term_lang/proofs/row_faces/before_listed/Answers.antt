use Rattle.std.proofs.Common.{sym, ◌∙◌, ap, subst}
use Rattle.simp_ops.specs.Words.{IsWord, compose_words}
use Rattle.simp_ops.specs.Bits.{mask_word}
use Rattle.spaces.specs.Tables.{Row as TableRow, RowSimplex, row_at}
use Rattle.cells.specs.declared.cells.Cell.{Cell}
use Rattle.cells.specs.declared.cells.Cell.TheVariants.{Row as RowCell}
use Rattle.term_lang.specs.declared.tables.Row.{Row}
use Rattle.term_lang.specs.Rows.{rows_of}
use Rattle.term_lang.proofs.RowReads.{row-read, face_within, face_read}
use Rattle.term_lang.proofs.row_faces.before_listed.Goals as goal

pub bounds-faces-j : goal.bounds-faces-j
bounds-faces-j c = face_within c.args.rows.now c.args.row c.args.j c.index-rows-row.result c.as_slice-faces.result.now c.requires.row c.requires.face c.index-rows-row.is c.as_slice-faces.ensures

pub compose-requires : goal.compose-requires
compose-requires c =
    let r = face_read c.args.rows.now c.args.row c.args.j c.index-rows-row.result c.as_slice-faces.result.now c.index-faces-j.result c.requires.form c.requires.row c.requires.face c.index-rows-row.is c.as_slice-faces.ensures c.index-faces-j.is in
    subst (λ (x : RowSimplex). IsWord 32 (compose_words (mask_word c.args.word.mask) x.0)) r.listed c.requires.fits

pub bounds-rows-face : goal.bounds-rows-face
bounds-rows-face c =
    (face_read c.args.rows.now c.args.row c.args.j c.index-rows-row.result c.as_slice-faces.result.now c.index-faces-j.result c.requires.form c.requires.row c.requires.face c.index-rows-row.is c.as_slice-faces.ensures c.index-faces-j.is).within

pub bounds-rows-face-2 : goal.bounds-rows-face-2
bounds-rows-face-2 c =
    (face_read c.args.rows.now c.args.row c.args.j c.index-rows-row.result c.as_slice-faces.result.now c.index-faces-j.result c.requires.form c.requires.row c.requires.face c.index-rows-row.is c.as_slice-faces.ensures c.index-faces-j.is).within

pub returns-clause-word : goal.returns-clause-word
returns-clause-word c =
    let r = face_read c.args.rows.now c.args.row c.args.j c.index-rows-row.result c.as_slice-faces.result.now c.index-faces-j.result c.requires.form c.requires.row c.requires.face c.index-rows-row.is c.as_slice-faces.ensures c.index-faces-j.is in
    c.compose.ensures ∙ ap (λ (x : RowSimplex). compose_words (mask_word c.args.word.mask) x.0) (sym r.listed)

pub returns-clause-cell : goal.returns-clause-cell
returns-clause-cell c =
    let r = face_read c.args.rows.now c.args.row c.args.j c.index-rows-row.result c.as_slice-faces.result.now c.index-faces-j.result c.requires.form c.requires.row c.requires.face c.index-rows-row.is c.as_slice-faces.ensures c.index-faces-j.is in
    let cell_at : RowSimplex → Cell = λ x. RowCell (row_at (rows_of c.args.rows.now) x.1).dim x.1 in
    ap (λ (x : Row). RowCell x.dim c.index-faces-j.result.row) (sym c.index-rows-face.is)
    ∙ ap (λ (x : TableRow). RowCell x.dim c.index-faces-j.result.row) (sym (row-read c.args.rows.now c.index-faces-j.result.row c.index-rows-face.result r.within c.index-rows-face.is))
    ∙ ap cell_at (sym r.listed)
