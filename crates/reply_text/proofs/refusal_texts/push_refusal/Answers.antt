use Rattle.std.proofs.Common.{◌++◌, codes, sym, ◌∙◌, ap}
use Rattle.std.specs.Fmt.{decimal, signed_decimal}
use Rattle.term_lang.specs.SpaceOf.{space_of}
use Rattle.reply_text.specs.CellText.{term_text}
use Rattle.reply_text.specs.Text.{refusal_text}
use Rattle.reply_text.proofs.Appends.{piece_is, after_one, after_two}
use Rattle.reply_text.proofs.refusal_texts.push_refusal.Goals as goal

pub returns-in_ok-push_text-in-UnknownName : goal.returns-in_ok-push_text-in-UnknownName
returns-in_ok-push_text-in-UnknownName c =
    after_one _ _ _ _ _ _ _ c.in_ok-push_text-in-UnknownName.ensures c.push_bytes.ensures
    (ap (λ n. codes "unknown-name " ++ n) c.as_bytes.ensures.bytes ∙ sym (ap refusal_text c.in-UnknownName.is))

pub returns-in_ok-push_counted-in-UnknownCell : goal.returns-in_ok-push_counted-in-UnknownCell
returns-in_ok-push_counted-in-UnknownCell c =
    after_one _ _ _ _ _ _ _ c.in_ok-push_counted-in-UnknownCell.ensures c.push_counted-in-UnknownCell-2.ensures (sym (ap refusal_text c.in-UnknownCell.is))

pub returns-in_ok-push_counted-in-FaceLaw-2 : goal.returns-in_ok-push_counted-in-FaceLaw-2
returns-in_ok-push_counted-in-FaceLaw-2 c =
    after_two _ _ _ _ _ _ _ _ _ c.in_ok-push_counted-in-FaceLaw.ensures c.in_ok-push_counted-in-FaceLaw-2.ensures c.push_counted-in-FaceLaw-3.ensures
    (sym (ap refusal_text c.in-FaceLaw.is))

pub returns-in_ok-push_text-in-NotClosed : goal.returns-in_ok-push_text-in-NotClosed
returns-in_ok-push_text-in-NotClosed c =
    after_two _ _ _ _ _ (codes "cocycle not-closed " ++ decimal c.in-NotClosed.r) (codes " ") (signed_decimal c.in-NotClosed.sum) _
    c.in_ok-push_counted-in-NotClosed.ensures c.in_ok-push_text-in-NotClosed.ensures c.push_sum.ensures (sym (ap refusal_text c.in-NotClosed.is))

pub returns-in_ok-push_text-in-NotCycle : goal.returns-in_ok-push_text-in-NotCycle
returns-in_ok-push_text-in-NotCycle c =
    after_one _ _ _ _ _ _ _ c.in_ok-push_text-in-NotCycle.ensures c.push_term.ensures
    (ap (λ u. codes "not-a-cycle " ++ term_text (space_of u) c.in-NotCycle.x c.in-NotCycle.c.value) c.get.ensures ∙ sym (ap refusal_text c.in-NotCycle.is))

pub returns-in-BaseNotTable : goal.returns-in-BaseNotTable
returns-in-BaseNotTable c = piece_is _ _ _ _ _ c.push_text-in-BaseNotTable.ensures (sym (ap refusal_text c.in-BaseNotTable.is))

pub returns-in-TooManyCells : goal.returns-in-TooManyCells
returns-in-TooManyCells c = piece_is _ _ _ _ _ c.push_counted-in-TooManyCells.ensures (sym (ap refusal_text c.in-TooManyCells.is))

pub returns-in-DuplicateCell : goal.returns-in-DuplicateCell
returns-in-DuplicateCell c = piece_is _ _ _ _ _ c.push_counted-in-DuplicateCell.ensures (sym (ap refusal_text c.in-DuplicateCell.is))

pub returns-in-CocycleUnknown : goal.returns-in-CocycleUnknown
returns-in-CocycleUnknown c = piece_is _ _ _ _ _ c.push_counted-in-CocycleUnknown.ensures (sym (ap refusal_text c.in-CocycleUnknown.is))

pub returns-in-CocycleRepeated : goal.returns-in-CocycleRepeated
returns-in-CocycleRepeated c = piece_is _ _ _ _ _ c.push_counted-in-CocycleRepeated.ensures (sym (ap refusal_text c.in-CocycleRepeated.is))

pub returns-in-BadSphere : goal.returns-in-BadSphere
returns-in-BadSphere c = piece_is _ _ _ _ _ c.push_counted-in-BadSphere.ensures (sym (ap refusal_text c.in-BadSphere.is))
