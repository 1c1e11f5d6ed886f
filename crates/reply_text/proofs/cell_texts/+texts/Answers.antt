use Rattle.std.proofs.Common.{◌++◌, map, codes, sym, ◌∙◌, ap, arith}
use Rattle.std.specs.List.{flat_map}
use Rattle.std.specs.Fmt.{signed_decimal}
use Rattle.reply_text.specs.CellText.{cell_text, simplex_text, letter_text, spaced}
use Rattle.reply_text.specs.Spaces.{printed_space}
use Rattle.reply_text.proofs.Appends.{piece_is, after_one, after_two, after_four}
use Rattle.reply_text.proofs.CellTexts.{text_top, text_pair, text_up, text_ints, text_word}
use Rattle.reply_text.proofs.SpacedTexts.{next_spaced, not_first}
use Rattle.reply_text.proofs.cell_texts.+texts.Goals as goal

pub push_cell-returns-in_ok-push_text-in-Top : goal.push_cell-returns-in_ok-push_text-in-Top
push_cell-returns-in_ok-push_text-in-Top t c =
    after_one _ _ _ _ _ _ _ c.in_ok-push_text-in-Top.ensures c.push_number.ensures
    (sym (ap (λ x. cell_text x (printed_space c.args.space)) c.in-Top.is ∙ text_top c.in-Top.n (printed_space c.args.space)))

pub push_cell-returns-in_ok-push_simplex-in-Pair-2 : goal.push_cell-returns-in_ok-push_simplex-in-Pair-2
push_cell-returns-in_ok-push_simplex-in-Pair-2 t c =
    after_four _ _ _ _ _ _ _ _ _ _ _ _ _ c.in_ok-push_text-in-Pair.ensures c.in_ok-push_simplex-in-Pair.ensures c.in_ok-push_text-in-Pair-2.ensures
    c.in_ok-push_simplex-in-Pair-2.ensures c.push_text-in-Pair-3.ensures
    ((λ i. codes "<" ++ (simplex_text (c.get.ensures i) (c.left.ensures i) ++ (codes "," ++ (simplex_text (c.get-in-Pair.ensures i) (c.right.ensures i) ++ codes ">"))))
    ∙ sym (ap (λ x. cell_text x (printed_space c.args.space)) c.in-Pair.is ∙ text_pair c.in-Pair.a c.in-Pair.b (printed_space c.args.space)))

pub push_cell-returns-in_ok-push_text-in-Up : goal.push_cell-returns-in_ok-push_text-in-Up
push_cell-returns-in_ok-push_text-in-Up t c =
    after_one _ _ _ _ _ _ _ c.in_ok-push_text-in-Up.ensures c.push_cell.ensures
    ((λ i. codes "^" ++ cell_text (c.get-in-Up.ensures i) (c.below.ensures i))
    ∙ sym (ap (λ x. cell_text x (printed_space c.args.space)) c.in-Up.is ∙ text_up c.in-Up.c (printed_space c.args.space)))

pub push_cell-returns-in-Ints : goal.push_cell-returns-in-Ints
push_cell-returns-in-Ints t c =
    piece_is _ _ _ _ _ c.push_integers.ensures
    (ap (λ ks. codes "|" ++ flat_map (λ k. signed_decimal k ++ codes "|") ks) c.as_slice.ensures
    ∙ sym (ap (λ x. cell_text x (printed_space c.args.space)) c.in-Ints.is ∙ text_ints c.in-Ints.list (printed_space c.args.space)))

pub push_cell-returns-in_ok-push_letters-in-Word : goal.push_cell-returns-in_ok-push_letters-in-Word
push_cell-returns-in_ok-push_letters-in-Word t c =
    after_two _ _ _ _ _ _ _ _ _ c.in_ok-push_text-in-Word.ensures c.in_ok-push_letters-in-Word.ensures c.push_text-in-Word-2.ensures
    (ap (λ X. codes "[" ++ (spaced (map (λ l. letter_text l X) c.in-Word.letters) ++ codes "]")) c.below-in-Word.ensures
    ∙ sym (ap (λ x. cell_text x (printed_space c.args.space)) c.in-Word.is ∙ text_word c.in-Word.letters (printed_space c.args.space)))

pub push_letters-loop-letter-preserved : goal.push_letters-loop-letter-preserved
push_letters-loop-letter-preserved t c = (
  next_spaced (λ x. letter_text x (printed_space c.args.space)) c.as_slice-letter-items.result.now c.loop-letter.letter-index _ c.letter-item.result c.loop-letter.is_first _ _ _ _
      (omega arith) c.letter-item.is (omega arith) c.loop-letter.invariant.1 c.loop-letter.invariant.0 c.in_ok-push_gap.ensures c.in_ok-push_letter.ensures,
  not_first c.loop-letter.letter-index _ (omega arith),
)
