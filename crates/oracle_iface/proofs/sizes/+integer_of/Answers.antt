use Rattle.std.proofs.Common.{◌≡◌, length, take, sym, ◌∙◌, ap, arith}
use Rattle.std.specs.Prelude.{nat_abs}
use Rattle.std.proofs.Math.Seq.{take-length}
use Rattle.values.specs.Sizes.{greatest}
use Rattle.oracle_iface.specs.CodeSizes.{cell_integer}
use Rattle.oracle_iface.proofs.SizeRules.{integer_ints, integer_word}
use Rattle.oracle_iface.proofs.sizes.+integer_of.Goals as goal

pub returns-after-loop-k : goal.returns-after-loop-k
returns-after-loop-k t c =
    let e : c.loop-k.k-index ≡ length c.as_slice-k-items.result.now = omega arith in
    c.loop-k.invariant
    ∙ ap (greatest nat_abs) (ap (λ n. take n c.as_slice-k-items.result.now) e ∙ take-length c.as_slice-k-items.result.now ∙ c.as_slice-k-items.ensures)
    ∙ sym (ap cell_integer c.in-Ints.is ∙ integer_ints c.in-Ints.list)

pub returns-after-loop-letter : goal.returns-after-loop-letter
returns-after-loop-letter t c =
    let e : c.loop-letter.letter-index ≡ length c.as_slice-letter-items.result.now = omega arith in
    c.loop-letter.invariant
    ∙ ap (greatest (λ x. cell_integer x.simplex.cell))
    (ap (λ n. take n c.as_slice-letter-items.result.now) e ∙ take-length c.as_slice-letter-items.result.now ∙ c.as_slice-letter-items.ensures)
    ∙ sym (ap cell_integer c.in-Word.is ∙ integer_word c.in-Word.letters)
