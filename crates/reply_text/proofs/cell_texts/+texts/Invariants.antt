use Rattle.std.proofs.Common.{◌≡◌, ◌++◌, map, take, ◌==◌}
use Rattle.reply_text.specs.CellText.{letter_text, spaced}
use Rattle.reply_text.specs.Spaces.{printed_space}
use Rattle.reply_text.proofs.cell_texts.+texts.Given as goal

abbrev pub invariant-push_letters-loop-letter : goal.invariant-push_letters-loop-letter
invariant-push_letters-loop-letter l =
    (l.out ≡ l.initial.out ++ spaced (map (λ x. letter_text x (printed_space l.space)) (take l.letter-index l.letter-items))) × (l.is_first ≡ (l.letter-index == 0))
