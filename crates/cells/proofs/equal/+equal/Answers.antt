use Rattle.std.proofs.Common.{◌≡◌, ◌&&◌, nat_eq, false, true≢false, sym, ◌∙◌, ap}
use Rattle.std.specs.Ordering.{eq_by_cmp}
use Rattle.std.specs.Cmp.Lexicographic.{pointwise, pointwise_decides}
use Rattle.std.specs.Cmp.Rules.{signed_items}
use Rattle.cells.specs.declared.cells.Cell.TheVariants.{Row, Top, Pair, Up, Ints, Word}
use Rattle.cells.specs.Order.{cell_cmp, simplex_cmp, letter_cmp}
use Rattle.cells.proofs.Equality.{cell_decides, simplex_decides, letter_decides, number_decides, first_true, first_false, masks_tell, by_parts, unlike, alike, row_parts, top_part, pair_parts, up_part, ints_part, word_part}
use Rattle.cells.proofs.equal.+equal.Goals as goal

pub same_cells-returns-in-Base-Base : goal.same_cells-returns-in-Base-Base
same_cells-returns-in-Base-Base t c = alike _ _ (c.in-Base-Base.is-0 ∙ sym c.in-Base-Base.is-1)

pub same_cells-returns-in-Up-Up : goal.same_cells-returns-in-Up-Up
same_cells-returns-in-Up-Up t c =
    c.same_cells.ensures ∙ (λ i. eq_by_cmp cell_cmp (c.get-in-Up-Up.ensures i) (c.get-in-Up-Up-2.ensures i))
    ∙ by_parts _ _ _ _ _ c.in-Up-Up.is-0 c.in-Up-Up.is-1 (cell_decides c.in-Up-Up.c c.in-Up-Up.d) (ap Up) (up_part c.in-Up-Up.c c.in-Up-Up.d)

pub same_cells-returns-in-Ints-Ints : goal.same_cells-returns-in-Ints-Ints
same_cells-returns-in-Ints-Ints t c =
    c.eq.ensures
    ∙ by_parts _ _ _ _ _ c.in-Ints-Ints.is-0 c.in-Ints-Ints.is-1 (signed_items c.in-Ints-Ints.a c.in-Ints-Ints.b) (ap Ints) (ints_part c.in-Ints-Ints.a c.in-Ints-Ints.b)

pub same_cells-returns-in-Word-Word : goal.same_cells-returns-in-Word-Word
same_cells-returns-in-Word-Word t c =
    c.same_words.ensures ∙ (λ i. pointwise (eq_by_cmp letter_cmp) (c.as_slice.ensures i) (c.as_slice-in-Word-Word.ensures i))
    ∙ by_parts _ _ _ _ _ c.in-Word-Word.is-0 c.in-Word-Word.is-1 (pointwise_decides letter_decides c.in-Word-Word.a c.in-Word-Word.b) (ap Word) (word_part c.in-Word-Word.a c.in-Word-Word.b)

pub same_cells-returns-in_default : goal.same_cells-returns-in_default
same_cells-returns-in_default t c = unlike _ _ (λ e. c.in_default.not-Row-1 _ _ (sym e ∙ c.in_default.is-0))

pub same_cells-returns-in_default-2 : goal.same_cells-returns-in_default-2
same_cells-returns-in_default-2 t c = unlike _ _ (λ e. c.in_default.not-Base-1 (sym e ∙ c.in_default.is-0))

pub same_cells-returns-in_default-3 : goal.same_cells-returns-in_default-3
same_cells-returns-in_default-3 t c = unlike _ _ (λ e. c.in_default.not-Top-1 _ (sym e ∙ c.in_default.is-0))

pub same_cells-returns-in_default-4 : goal.same_cells-returns-in_default-4
same_cells-returns-in_default-4 t c = unlike _ _ (λ e. c.in_default.not-Pair-1 _ _ (sym e ∙ c.in_default.is-0))

pub same_cells-returns-in_default-5 : goal.same_cells-returns-in_default-5
same_cells-returns-in_default-5 t c = unlike _ _ (λ e. c.in_default.not-Up-1 _ (sym e ∙ c.in_default.is-0))

pub same_cells-returns-in_default-6 : goal.same_cells-returns-in_default-6
same_cells-returns-in_default-6 t c = unlike _ _ (λ e. c.in_default.not-Ints-1 _ (sym e ∙ c.in_default.is-0))

pub same_cells-returns-in_default-7 : goal.same_cells-returns-in_default-7
same_cells-returns-in_default-7 t c = unlike _ _ (λ e. c.in_default.not-Word-1 _ (sym e ∙ c.in_default.is-0))

pub same_cells-returns-then-d-e : goal.same_cells-returns-then-d-e
same_cells-returns-then-d-e t c =
    let r = c.in-Row-Row in
    by_parts _ _ _ _ _ r.is-0 r.is-1 (first_true (nat_eq r.d r.e) (nat_eq r.a r.b) (number_decides r.d r.e) (number_decides r.a r.b) ((number_decides r.d r.e).1 c.if-d-e.true)) (λ p i. Row (p.0 i) (p.1 i))
    (row_parts r.d r.a r.e r.b)

pub same_cells-returns-else-d-e : goal.same_cells-returns-else-d-e
same_cells-returns-else-d-e t c =
    let r = c.in-Row-Row in
    by_parts _ _ _ _ _ r.is-0 r.is-1 (first_false (nat_eq r.d r.e) (number_decides r.d r.e) c.if-d-e.false) (λ p i. Row (p.0 i) (p.1 i)) (row_parts r.d r.a r.e r.b)

pub same_cells-returns-in-Top-Top : goal.same_cells-returns-in-Top-Top
same_cells-returns-in-Top-Top t c =
    by_parts _ _ _ _ _ c.in-Top-Top.is-0 c.in-Top-Top.is-1 (number_decides c.in-Top-Top.m c.in-Top-Top.n) (ap Top) (top_part c.in-Top-Top.m c.in-Top-Top.n)

pub same_cells-returns-then-not-same_masks : goal.same_cells-returns-then-not-same_masks
same_cells-returns-then-not-same_masks t c =
    let r = c.in-Pair-Pair in
    let masks : c.same_masks.result ≡ nat_eq r.a.degens.mask r.b.degens.mask && nat_eq r.x.degens.mask r.y.degens.mask =
    ◌∙◌ {b = nat_eq c.get.result.now.degens.mask c.get-in-Pair-Pair-2.result.now.degens.mask && nat_eq c.get-in-Pair-Pair.result.now.degens.mask c.get-in-Pair-Pair-3.result.now.degens.mask}
    c.same_masks.ensures
    (λ i. nat_eq (c.get.ensures i).degens.mask (c.get-in-Pair-Pair-2.ensures i).degens.mask && nat_eq (c.get-in-Pair-Pair.ensures i).degens.mask (c.get-in-Pair-Pair-3.ensures i).degens.mask) in
    let differ : c.same_masks.result ≡ false = cc in
    unlike _ _ (λ e. masks_tell r.a r.x r.b r.y c.same_masks.result masks differ (sym r.is-0 ∙ e ∙ r.is-1))

pub same_cells-returns-then-same_simplices : goal.same_cells-returns-then-same_simplices
same_cells-returns-then-same_simplices t c =
    let r = c.in-Pair-Pair in
    let left : c.same_simplices.result ≡ eq_by_cmp simplex_cmp r.a r.b = c.same_simplices.ensures ∙ (λ i. eq_by_cmp simplex_cmp (c.get-in-Pair-Pair-4.ensures i) (c.get-in-Pair-Pair-5.ensures i)) in
    c.same_simplices-then-same_simplices.ensures ∙ (λ i. eq_by_cmp simplex_cmp (c.get-then-same_simplices.ensures i) (c.get-then-same_simplices-2.ensures i))
    ∙ by_parts _ _ _ _ _ r.is-0 r.is-1
    (first_true (eq_by_cmp simplex_cmp r.a r.b) (eq_by_cmp simplex_cmp r.x r.y) (simplex_decides r.a r.b) (simplex_decides r.x r.y) (sym left ∙ c.if-same_simplices.true))
    (λ p i. Pair (p.0 i) (p.1 i)) (pair_parts r.a r.x r.b r.y)

pub same_cells-returns-else-same_simplices : goal.same_cells-returns-else-same_simplices
same_cells-returns-else-same_simplices t c =
    let r = c.in-Pair-Pair in
    let left : c.same_simplices.result ≡ eq_by_cmp simplex_cmp r.a r.b = c.same_simplices.ensures ∙ (λ i. eq_by_cmp simplex_cmp (c.get-in-Pair-Pair-4.ensures i) (c.get-in-Pair-Pair-5.ensures i)) in
    left
    ∙ by_parts _ _ _ _ _ r.is-0 r.is-1 (first_false (eq_by_cmp simplex_cmp r.a r.b) (simplex_decides r.a r.b) (λ e. true≢false (sym ((simplex_decides r.a r.b).1 e) ∙ sym left ∙ c.if-same_simplices.false)))
    (λ p i. Pair (p.0 i) (p.1 i)) (pair_parts r.a r.x r.b r.y)
