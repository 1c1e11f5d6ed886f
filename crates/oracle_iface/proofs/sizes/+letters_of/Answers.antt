use Rattle.std.proofs.Common.{◌≡◌, length, max, take, sym, ◌∙◌, ap, arith}
use Rattle.std.proofs.Math.Seq.{take-length}
use Rattle.values.specs.Sizes.{greatest}
use Rattle.oracle_iface.specs.CodeSizes.{cell_letters}
use Rattle.oracle_iface.proofs.SizeRules.{letters_word}
use Rattle.oracle_iface.proofs.sizes.+letters_of.Goals as goal

pub returns-after-loop-letter : goal.returns-after-loop-letter
returns-after-loop-letter t c =
    let e : c.loop-letter.letter-index ≡ length c.as_slice-letter-items.result.now = omega arith in
    c.loop-letter.invariant
    ∙ (λ i. max (length (c.as_slice-letter-items.ensures i)) (greatest (λ x. cell_letters x.simplex.cell)
    ((ap (λ n. take n c.as_slice-letter-items.result.now) e ∙ take-length c.as_slice-letter-items.result.now ∙ c.as_slice-letter-items.ensures) i)))
    ∙ sym (ap cell_letters c.in-Word.is ∙ letters_word c.in-Word.letters)
