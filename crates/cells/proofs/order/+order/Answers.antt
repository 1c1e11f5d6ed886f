use Rattle.std.proofs.Common.{◌≡◌, sym, ◌∙◌, ap}
use Rattle.std.specs.Ordering.{nat_cmp, ordering_then}
use Rattle.std.specs.declared.cmp.Ordering.TheVariants.{Equal}
use Rattle.cells.specs.Dim.{degree_of}
use Rattle.cells.specs.Order.{cell_cmp, simplex_cmp}
use Rattle.cells.proofs.Compared.{decides}
use Rattle.cells.proofs.ByParts.{by_rows, by_bases, by_tops, by_pairs, by_ups, by_ints, one_mask, nat_cmp-is, through, unlike_kinds, not_row, not_base, not_top, not_pair, not_up, not_ints, not_word}
use Rattle.cells.proofs.order.+order.Goals as goal
use Rattle.cells.proofs.order.+order.Goals.{CellOrd::cmp-in_default-via-in-Row+in_default, CellOrd::cmp-in_default-via-in-Base+in_default, CellOrd::cmp-in_default-via-in-Top+in_default, CellOrd::cmp-in_default-via-in-Pair+in_default, CellOrd::cmp-in_default-via-in-Up+in_default, CellOrd::cmp-in_default-via-in-Ints+in_default, CellOrd::cmp-in_default-via-in-Word+in_default}

pub CellOrd::cmp-returns-in-Row-Row : goal.CellOrd::cmp-returns-in-Row-Row
CellOrd::cmp-returns-in-Row-Row t c =
    through _ _ _ _ _ c.in-Row-Row.is-0 c.in-Row-Row.is-1
    (c.then.ensures ∙ (λ i. ordering_then (c.cmp.ensures i) (c.cmp-in-Row-Row.ensures i)) ∙ sym (by_rows c.in-Row-Row.d c.in-Row-Row.e c.in-Row-Row.a c.in-Row-Row.b))

pub CellOrd::cmp-returns-in-Base-Base : goal.CellOrd::cmp-returns-in-Base-Base
CellOrd::cmp-returns-in-Base-Base t c = through _ _ _ _ _ c.in-Base-Base.is-0 c.in-Base-Base.is-1 (sym by_bases)

pub CellOrd::cmp-returns-in-Top-Top : goal.CellOrd::cmp-returns-in-Top-Top
CellOrd::cmp-returns-in-Top-Top t c =
    through _ _ _ _ _ c.in-Top-Top.is-0 c.in-Top-Top.is-1 (c.cmp-in-Top-Top.ensures ∙ sym (by_tops c.in-Top-Top.m c.in-Top-Top.n))

pub CellOrd::cmp-returns-in-Up-Up : goal.CellOrd::cmp-returns-in-Up-Up
CellOrd::cmp-returns-in-Up-Up t c =
    through _ _ _ _ _ c.in-Up-Up.is-0 c.in-Up-Up.is-1
    (c.cmp-in-Up-Up.ensures ∙ (λ i. cell_cmp (c.get-in-Up-Up.ensures i) (c.get-in-Up-Up-2.ensures i)) ∙ sym (by_ups c.in-Up-Up.c c.in-Up-Up.d))

pub CellOrd::cmp-returns-in-Ints-Ints : goal.CellOrd::cmp-returns-in-Ints-Ints
CellOrd::cmp-returns-in-Ints-Ints t c =
    through _ _ _ _ _ c.in-Ints-Ints.is-0 c.in-Ints-Ints.is-1 (c.cmp_ints.ensures ∙ sym (by_ints c.in-Ints-Ints.a c.in-Ints-Ints.b))

pub CellOrd::cmp-returns-in-Equal : goal.CellOrd::cmp-returns-in-Equal
CellOrd::cmp-returns-in-Equal t c =
    let lefts : ordering_then (nat_cmp (degree_of c.in-Pair-Pair.a) (degree_of c.in-Pair-Pair.b)) (simplex_cmp c.in-Pair-Pair.a c.in-Pair-Pair.b) ≡ Equal =
    (λ i. ordering_then (nat_cmp (degree_of (sym c.get.ensures i)) (degree_of (sym c.get-in-Pair-Pair.ensures i))) (simplex_cmp (sym c.get.ensures i) (sym c.get-in-Pair-Pair.ensures i)))
    ∙ sym c.cmp_lefts.ensures ∙ c.in-Equal.is in
    through _ _ _ _ _ c.in-Pair-Pair.is-0 c.in-Pair-Pair.is-1
    (c.cmp-in-Equal.ensures ∙ (λ i. simplex_cmp (c.get-in-Equal.ensures i) (c.get-in-Equal-2.ensures i))
    ∙ ap (λ o. ordering_then o (simplex_cmp c.in-Pair-Pair.x c.in-Pair-Pair.y)) (sym lefts)
    ∙ sym (by_pairs c.in-Pair-Pair.a c.in-Pair-Pair.x c.in-Pair-Pair.b c.in-Pair-Pair.y))

pub CellOrd::cmp-returns-in_default-cmp_lefts : goal.CellOrd::cmp-returns-in_default-cmp_lefts
CellOrd::cmp-returns-in_default-cmp_lefts t c =
    through _ _ _ _ _ c.in-Pair-Pair.is-0 c.in-Pair-Pair.is-1
    (decides c.cmp_lefts.result (simplex_cmp c.in-Pair-Pair.x c.in-Pair-Pair.y) c.in_default-cmp_lefts.not-Equal
    ∙ ap (λ o. ordering_then o (simplex_cmp c.in-Pair-Pair.x c.in-Pair-Pair.y)) (c.cmp_lefts.ensures
    ∙ (λ i. ordering_then (nat_cmp (degree_of (c.get.ensures i)) (degree_of (c.get-in-Pair-Pair.ensures i))) (simplex_cmp (c.get.ensures i) (c.get-in-Pair-Pair.ensures i))))
    ∙ sym (by_pairs c.in-Pair-Pair.a c.in-Pair-Pair.x c.in-Pair-Pair.b c.in-Pair-Pair.y))

pub CellOrd::cmp-returns-in_default : goal.CellOrd::cmp-returns-in_default
CellOrd::cmp-returns-in_default t c =
    unlike_kinds c.args.self.now c.args.other.now c.cmp_kinds.result c.cmp_kinds.ensures
    (elim c.in_default.branch [
      | CellOrd::cmp-in_default-via-in-Row+in_default w ↦ not_row _ _ _ _ w.in_default.is-0 w.in_default.not-Row-1
      | CellOrd::cmp-in_default-via-in-Base+in_default w ↦ not_base _ _ w.in_default.is-0 w.in_default.not-Base-1
      | CellOrd::cmp-in_default-via-in-Top+in_default w ↦ not_top _ _ _ w.in_default.is-0 w.in_default.not-Top-1
      | CellOrd::cmp-in_default-via-in-Pair+in_default w ↦ not_pair _ _ _ _ w.in_default.is-0 w.in_default.not-Pair-1
      | CellOrd::cmp-in_default-via-in-Up+in_default w ↦ not_up _ _ _ w.in_default.is-0 w.in_default.not-Up-1
      | CellOrd::cmp-in_default-via-in-Ints+in_default w ↦ not_ints _ _ _ w.in_default.is-0 w.in_default.not-Ints-1
      | CellOrd::cmp-in_default-via-in-Word+in_default w ↦ not_word _ _ _ w.in_default.is-0 w.in_default.not-Word-1
    ])

pub cmp_lefts-returns-in-Equal : goal.cmp_lefts-returns-in-Equal
cmp_lefts-returns-in-Equal t c = c.cmp-in-Equal.ensures ∙ one_mask c.args.a.now c.args.b.now (nat_cmp-is _ _ (sym c.cmp.ensures ∙ c.in-Equal.is))
