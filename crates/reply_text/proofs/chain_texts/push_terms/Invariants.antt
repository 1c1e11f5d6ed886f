use Rattle.std.proofs.Common.{◌≡◌, ◌++◌, map, take, ◌==◌}
use Rattle.reply_text.specs.CellText.{term_text, spaced}
use Rattle.reply_text.specs.Spaces.{printed_space}
use Rattle.reply_text.proofs.chain_texts.push_terms.Given as goal

abbrev pub invariant-loop-c : goal.invariant-loop-c
invariant-loop-c l =
    (l.out ≡ l.initial.out ++ spaced (map (λ t. term_text (printed_space l.space) t.0 t.1.value) (take l.c-index l.terms))) × (l.is_first ≡ (l.c-index == 0))
