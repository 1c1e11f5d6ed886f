use Rattle.std.proofs.Common.{length, sym, ◌∙◌, ap}
use Rattle.std.specs.Ordering.{nat_cmp, ordering_then}
use Rattle.std.specs.Cmp.Lexicographic.{slice_cmp}
use Rattle.cells.specs.Dim.{dim_of}
use Rattle.cells.specs.Order.{cell_cmp, letter_cmp}
use Rattle.cells.proofs.ByParts.{by_words}
use Rattle.cells.proofs.order.cmp_word_dims.Goals as goal

pub returns : goal.returns
returns c =
    (λ i. cell_cmp (c.requires.first i) (c.requires.second i)) ∙ by_words c.args.a.now c.args.b.now
    ∙ (λ i. ordering_then
    (sym (c.cmp.ensures ∙ (λ j. nat_cmp ((c.dim.ensures ∙ ap dim_of c.requires.first) j) ((c.dim-2.ensures ∙ ap dim_of c.requires.second) j))) i)
    (ordering_then (nat_cmp (length c.args.a.now) (length c.args.b.now)) (slice_cmp letter_cmp c.args.a.now c.args.b.now)))
