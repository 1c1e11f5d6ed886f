use Rattle.std.proofs.Common.{◌≡◌, true≢false, sym, ◌∙◌, ap}
use Rattle.std.specs.Ordering.{eq_by_cmp}
use Rattle.std.specs.Cmp.Lexicographic.{pointwise, pointwise_decides}
use Rattle.cells.specs.declared.cells.SmallCell.TheVariants.{One, Pair, Up, Word}
use Rattle.cells.specs.Small.{small_cmp}
use Rattle.cells.proofs.Equality.{cell_decides, first_true, first_false}
use Rattle.cells.proofs.SmallEquality.{small_decides, by_small_parts, unlike_small, one_part, small_pair_parts, small_up_part, small_word_part}
use Rattle.cells.proofs.equal.+equal_small.Goals as goal

pub same_small-returns-in-One-One : goal.same_small-returns-in-One-One
same_small-returns-in-One-One t c =
    c.eq.ensures
    ∙ by_small_parts _ _ _ _ _ c.in-One-One.is-0 c.in-One-One.is-1 (cell_decides c.in-One-One.x c.in-One-One.y) (ap One) (one_part c.in-One-One.x c.in-One-One.y)

pub same_small-returns-then-same_small : goal.same_small-returns-then-same_small
same_small-returns-then-same_small t c =
    let r = c.in-Pair-Pair in
    let left : c.same_small.result ≡ eq_by_cmp small_cmp r.a r.b = c.same_small.ensures ∙ (λ i. eq_by_cmp small_cmp (c.get.ensures i) (c.get-in-Pair-Pair.ensures i)) in
    c.same_small-then-same_small.ensures ∙ (λ i. eq_by_cmp small_cmp (c.get-then-same_small.ensures i) (c.get-then-same_small-2.ensures i))
    ∙ by_small_parts _ _ _ _ _ r.is-0 r.is-1
    (first_true (eq_by_cmp small_cmp r.a r.b) (eq_by_cmp small_cmp r.x r.y) (small_decides r.a r.b) (small_decides r.x r.y) (sym left ∙ c.if-same_small.true))
    (λ p i. Pair (p.0 i) (p.1 i)) (small_pair_parts r.a r.x r.b r.y)

pub same_small-returns-else-same_small : goal.same_small-returns-else-same_small
same_small-returns-else-same_small t c =
    let r = c.in-Pair-Pair in
    let left : c.same_small.result ≡ eq_by_cmp small_cmp r.a r.b = c.same_small.ensures ∙ (λ i. eq_by_cmp small_cmp (c.get.ensures i) (c.get-in-Pair-Pair.ensures i)) in
    left
    ∙ by_small_parts _ _ _ _ _ r.is-0 r.is-1
    (first_false (eq_by_cmp small_cmp r.a r.b) (small_decides r.a r.b) (λ e. true≢false (sym ((small_decides r.a r.b).1 e) ∙ sym left ∙ c.if-same_small.false)))
    (λ p i. Pair (p.0 i) (p.1 i)) (small_pair_parts r.a r.x r.b r.y)

pub same_small-returns-in-Up-Up : goal.same_small-returns-in-Up-Up
same_small-returns-in-Up-Up t c =
    c.same_small-in-Up-Up.ensures ∙ (λ i. eq_by_cmp small_cmp (c.get-in-Up-Up.ensures i) (c.get-in-Up-Up-2.ensures i))
    ∙ by_small_parts _ _ _ _ _ c.in-Up-Up.is-0 c.in-Up-Up.is-1 (small_decides c.in-Up-Up.x c.in-Up-Up.y) (ap Up) (small_up_part c.in-Up-Up.x c.in-Up-Up.y)

pub same_small-returns-in-Word-Word : goal.same_small-returns-in-Word-Word
same_small-returns-in-Word-Word t c =
    c.same_smalls.ensures ∙ (λ i. pointwise (eq_by_cmp small_cmp) (c.as_slice.ensures i) (c.as_slice-in-Word-Word.ensures i))
    ∙ by_small_parts _ _ _ _ _ c.in-Word-Word.is-0 c.in-Word-Word.is-1 (pointwise_decides small_decides c.in-Word-Word.v c.in-Word-Word.w) (ap Word) (small_word_part c.in-Word-Word.v c.in-Word-Word.w)

pub same_small-returns-in_default : goal.same_small-returns-in_default
same_small-returns-in_default t c = unlike_small _ _ (λ e. c.in_default.not-One-1 _ (sym e ∙ c.in_default.is-0))

pub same_small-returns-in_default-2 : goal.same_small-returns-in_default-2
same_small-returns-in_default-2 t c = unlike_small _ _ (λ e. c.in_default.not-Pair-1 _ _ (sym e ∙ c.in_default.is-0))

pub same_small-returns-in_default-3 : goal.same_small-returns-in_default-3
same_small-returns-in_default-3 t c = unlike_small _ _ (λ e. c.in_default.not-Up-1 _ (sym e ∙ c.in_default.is-0))

pub same_small-returns-in_default-4 : goal.same_small-returns-in_default-4
same_small-returns-in_default-4 t c = unlike_small _ _ (λ e. c.in_default.not-Word-1 _ (sym e ∙ c.in_default.is-0))
