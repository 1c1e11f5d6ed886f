use Rattle.std.proofs.Common.{◌≡◌, sym, ◌∙◌, ap, Some, slice_get}
use Rattle.std.specs.Option.{option_copied}
use Rattle.spaces.specs.Spaces.{table}
use Rattle.term_lang.specs.Rows.{rows_of}
use Rattle.reply_text.specs.CellText.{row_text}
use Rattle.reply_text.proofs.Appends.{piece_is}
use Rattle.reply_text.proofs.RowTexts.{name_at, kept_outside}
use Rattle.reply_text.proofs.rows.push_name.Goals as goal

pub returns-in-Some : goal.returns-in-Some
returns-in-Some c =
    let e : slice_get c.rows.result.now c.args.row ≡ Some c.in-Some.row.now = sym c.get.ensures.value ∙ ap option_copied c.in-Some.is in
    piece_is _ _ _ _ _ c.push_bytes.ensures
    (c.as_bytes.ensures.bytes ∙ sym (name_at c.rows.result.now c.args.row c.in-Some.row.now e) ∙ ap (λ rows. row_text (table (rows_of rows)) c.args.row) c.rows.ensures.rows)

pub returns-in-None : goal.returns-in-None
returns-in-None c =
    kept_outside c.args.rows.now c.args.row c.args.out.now (ap (λ rows. slice_get rows c.args.row) (sym c.rows.ensures.rows) ∙ sym c.get.ensures.value ∙ ap option_copied c.in-None.is)
