use Rattle.std.proofs.Common.{◌∙◌, ap}
use Rattle.simp_ops.specs.Words.{compose_words}
use Rattle.simp_ops.specs.Bits.{mask_word}
use Rattle.cells.specs.declared.cells.Simplex.{Simplex}
use Rattle.normal_forms.proofs.PairedForms.{pair_parted}
use Rattle.normal_forms.proofs.pairs.parts_of.Goals as goal

pub returns : goal.returns
returns c =
    let w = mask_word c.args.z.now.degens.mask in
    pair_parted c.args.z.now c.in-Pair.left c.in-Pair.right c.in_ok-left-in-Pair.left c.in_ok-right-in-Pair.right c.requires c.in-Pair.is
    (c.in_ok-left-in-Pair.ensures.word ∙ ap (λ (u : Simplex). compose_words w (mask_word u.degens.mask)) c.get.ensures)
    (c.in_ok-left-in-Pair.ensures.cell ∙ ap (λ (u : Simplex). u.cell) c.get.ensures)
    (c.in_ok-right-in-Pair.ensures.word ∙ ap (λ (u : Simplex). compose_words w (mask_word u.degens.mask)) c.get-in-Pair.ensures)
    (c.in_ok-right-in-Pair.ensures.cell ∙ ap (λ (u : Simplex). u.cell) c.get-in-Pair.ensures)
