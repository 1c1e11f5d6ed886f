use Rattle.std.proofs.Common.{◌≡◌, ◌+◌, ◌<◌, true, false, sym, ◌∙◌, ap, arith}
use Rattle.std.specs.Ordering.{nat_cmp, ordering_then, eq_by_cmp}
use Rattle.std.specs.Cmp.Lexicographic.{slice_cmp}
use Rattle.cells.specs.declared.cells.SmallCell.TheVariants.{Word}
use Rattle.cells.specs.Dim.{capped}
use Rattle.cells.specs.Small.{degree_of_small, small_cmp}
use Rattle.cells.proofs.SmallForms.{degree-Pair, degree-Up, rest_decides}
use Rattle.cells.proofs.Compared.{decides}
use Rattle.cells.proofs.SmallByParts.{by_ones, by_ups, by_words, same_left, other_left, in_one_degree, pair_degrees, right_degrees, below_degrees, level_words, counted, unlike_kinds, unlike_level, not_one, not_pair, not_up, not_word, through}
use Rattle.cells.proofs.small.+small.Goals as goal
use Rattle.cells.proofs.small.+small.Goals.{cmp_small-in_default-via-in-One+in_default, cmp_small-in_default-via-in-Pair+in_default, cmp_small-in_default-via-in-Up+in_default, cmp_small-in_default-via-in-Word+in_default, cmp_level-in_default-via-in-One+in_default, cmp_level-in_default-via-in-Pair+in_default, cmp_level-in_default-via-in-Up+in_default, cmp_level-in_default-via-in-Word+in_default}

pub cmp_words-returns : goal.cmp_words-returns
cmp_words-returns t c = c.cmp.ensures ∙ sym (rest_decides c.loop-i.i c.args.a.now c.args.b.now (omega arith)) ∙ c.loop-i.invariant

pub cmp_small-returns-in-One-One : goal.cmp_small-returns-in-One-One
cmp_small-returns-in-One-One t c =
    through _ _ _ _ _ c.in-One-One.is-0 c.in-One-One.is-1 (c.cmp.ensures ∙ sym (by_ones c.in-One-One.x c.in-One-One.y))

pub cmp_small-returns-in-Up-Up : goal.cmp_small-returns-in-Up-Up
cmp_small-returns-in-Up-Up t c =
    through _ _ _ _ _ c.in-Up-Up.is-0 c.in-Up-Up.is-1
    (c.cmp_small-in-Up-Up.ensures ∙ (λ i. small_cmp (c.get-in-Up-Up.ensures i) (c.get-in-Up-Up-2.ensures i)) ∙ sym (by_ups c.in-Up-Up.x c.in-Up-Up.y))

pub cmp_small-returns-then-eq : goal.cmp_small-returns-then-eq
cmp_small-returns-then-eq t c =
    let r = c.in-Pair-Pair in
    let lefts : eq_by_cmp small_cmp r.a r.b ≡ true = (λ i. eq_by_cmp small_cmp (sym c.get.ensures i) (sym c.get-in-Pair-Pair.ensures i)) ∙ sym c.eq.ensures ∙ c.if-eq.true in
    through _ _ _ _ _ r.is-0 r.is-1
    (c.cmp_small.ensures ∙ (λ i. small_cmp (c.get-then-eq.ensures i) (c.get-then-eq-2.ensures i)) ∙ sym (same_left r.a r.x r.b r.y lefts))

pub cmp_small-returns-in-Equal : goal.cmp_small-returns-in-Equal
cmp_small-returns-in-Equal t c =
    let r = c.in-Pair-Pair in
    let lefts : eq_by_cmp small_cmp r.a r.b ≡ false = (λ i. eq_by_cmp small_cmp (sym c.get.ensures i) (sym c.get-in-Pair-Pair.ensures i)) ∙ sym c.eq.ensures ∙ c.if-eq.false in
    let totals : c.cmp-in-Pair-Pair.result ≡ nat_cmp (capped (degree_of_small r.a + degree_of_small r.x)) (capped (degree_of_small r.b + degree_of_small r.y)) =
    c.cmp-in-Pair-Pair.ensures
    ∙ (λ i. nat_cmp
    ((c.saturating_add-first.ensures ∙ (λ j. capped ((c.small_degree-m.ensures ∙ ap degree_of_small c.get-in-Pair-Pair-2.ensures) j + (c.small_degree.ensures ∙ ap degree_of_small c.get-in-Pair-Pair-4.ensures) j))) i)
    ((c.saturating_add.ensures ∙ (λ j. capped ((c.small_degree-n.ensures ∙ ap degree_of_small c.get-in-Pair-Pair-3.ensures) j + (c.small_degree-in-Pair-Pair.ensures ∙ ap degree_of_small c.get-in-Pair-Pair-5.ensures) j))) i)) in
    let result : c.cmp_counted.result ≡ small_cmp c.get-in-Equal.result.now c.get-in-Equal-2.result.now =
    c.cmp_counted.ensures (c.small_degree-m.ensures ∙ ap degree_of_small (c.get-in-Pair-Pair-2.ensures ∙ sym c.get-in-Equal.ensures))
    (c.small_degree-n.ensures ∙ ap degree_of_small (c.get-in-Pair-Pair-3.ensures ∙ sym c.get-in-Equal-2.ensures)) in
    through _ _ _ _ _ r.is-0 r.is-1
    (result ∙ (λ i. small_cmp (c.get-in-Equal.ensures i) (c.get-in-Equal-2.ensures i))
    ∙ sym (other_left r.a r.x r.b r.y lefts ∙ ap (λ o. ordering_then o (small_cmp r.a r.b)) (sym totals ∙ c.in-Equal.is)))

pub cmp_small-returns-in_default-cmp : goal.cmp_small-returns-in_default-cmp
cmp_small-returns-in_default-cmp t c =
    let r = c.in-Pair-Pair in
    let lefts : eq_by_cmp small_cmp r.a r.b ≡ false = (λ i. eq_by_cmp small_cmp (sym c.get.ensures i) (sym c.get-in-Pair-Pair.ensures i)) ∙ sym c.eq.ensures ∙ c.if-eq.false in
    let totals : c.cmp-in-Pair-Pair.result ≡ nat_cmp (capped (degree_of_small r.a + degree_of_small r.x)) (capped (degree_of_small r.b + degree_of_small r.y)) =
    c.cmp-in-Pair-Pair.ensures
    ∙ (λ i. nat_cmp
    ((c.saturating_add-first.ensures ∙ (λ j. capped ((c.small_degree-m.ensures ∙ ap degree_of_small c.get-in-Pair-Pair-2.ensures) j + (c.small_degree.ensures ∙ ap degree_of_small c.get-in-Pair-Pair-4.ensures) j))) i)
    ((c.saturating_add.ensures ∙ (λ j. capped ((c.small_degree-n.ensures ∙ ap degree_of_small c.get-in-Pair-Pair-3.ensures) j + (c.small_degree-in-Pair-Pair.ensures ∙ ap degree_of_small c.get-in-Pair-Pair-5.ensures) j))) i)) in
    through _ _ _ _ _ r.is-0 r.is-1
    (decides c.cmp-in-Pair-Pair.result (small_cmp r.a r.b) c.in_default-cmp.not-Equal ∙ ap (λ o. ordering_then o (small_cmp r.a r.b)) totals
    ∙ sym (other_left r.a r.x r.b r.y lefts))

pub cmp_small-returns-in-Equal-cmp : goal.cmp_small-returns-in-Equal-cmp
cmp_small-returns-in-Equal-cmp t c =
    let r = c.in-Word-Word in
    let degrees : c.cmp-in-Word-Word.result ≡ nat_cmp (degree_of_small (Word r.v)) (degree_of_small (Word r.w)) =
    c.cmp-in-Word-Word.ensures
    ∙ (λ i. nat_cmp ((c.small_degree-in-Word-Word.ensures ∙ ap degree_of_small r.is-0) i) ((c.small_degree-in-Word-Word-2.ensures ∙ ap degree_of_small r.is-1) i)) in
    through _ _ _ _ _ r.is-0 r.is-1
    (c.cmp_words.ensures ∙ (λ i. slice_cmp small_cmp (c.as_slice.ensures i) (c.as_slice-in-Equal-cmp.ensures i))
    ∙ sym (by_words r.v r.w ∙ ap (λ o. ordering_then o (slice_cmp small_cmp r.v r.w)) (sym degrees ∙ c.in-Equal-cmp.is)))

pub cmp_small-returns-in_default-cmp-2 : goal.cmp_small-returns-in_default-cmp-2
cmp_small-returns-in_default-cmp-2 t c =
    let r = c.in-Word-Word in
    let degrees : c.cmp-in-Word-Word.result ≡ nat_cmp (degree_of_small (Word r.v)) (degree_of_small (Word r.w)) =
    c.cmp-in-Word-Word.ensures
    ∙ (λ i. nat_cmp ((c.small_degree-in-Word-Word.ensures ∙ ap degree_of_small r.is-0) i) ((c.small_degree-in-Word-Word-2.ensures ∙ ap degree_of_small r.is-1) i)) in
    through _ _ _ _ _ r.is-0 r.is-1
    (decides c.cmp-in-Word-Word.result (slice_cmp small_cmp r.v r.w) c.in_default-cmp-2.not-Equal ∙ ap (λ o. ordering_then o (slice_cmp small_cmp r.v r.w)) degrees
    ∙ sym (by_words r.v r.w))

pub cmp_small-returns-in_default : goal.cmp_small-returns-in_default
cmp_small-returns-in_default t c =
    unlike_kinds c.args.c.now c.args.d.now c.cmp_kinds.result c.cmp_kinds.ensures
    (elim c.in_default.branch [
      | cmp_small-in_default-via-in-One+in_default w ↦ not_one _ _ _ w.in_default.is-0 w.in_default.not-One-1
      | cmp_small-in_default-via-in-Pair+in_default w ↦ not_pair _ _ _ _ w.in_default.is-0 w.in_default.not-Pair-1
      | cmp_small-in_default-via-in-Up+in_default w ↦ not_up _ _ _ w.in_default.is-0 w.in_default.not-Up-1
      | cmp_small-in_default-via-in-Word+in_default w ↦ not_word _ _ _ w.in_default.is-0 w.in_default.not-Word-1
    ])

pub cmp_counted-returns-in_default : goal.cmp_counted-returns-in_default
cmp_counted-returns-in_default t c = counted c.args.c.now c.args.d.now c.args.m c.args.n c.cmp.result c.cmp.ensures c.in_default.not-Equal

pub cmp_level-returns-then-eq : goal.cmp_level-returns-then-eq
cmp_level-returns-then-eq t c = λ e h.
    let r = c.in-Pair-Pair in
    let lefts : eq_by_cmp small_cmp r.a r.b ≡ true = (λ i. eq_by_cmp small_cmp (sym c.get.ensures i) (sym c.get-in-Pair-Pair.ensures i)) ∙ sym c.eq.ensures ∙ c.if-eq.true in
    let k = right_degrees r.a r.x r.b r.y (degree_of_small c.args.c.now) lefts (ap degree_of_small r.is-0 ∙ degree-Pair r.a r.x) (e ∙ ap degree_of_small r.is-1 ∙ degree-Pair r.b r.y) h in
    let first : degree_of_small c.get-then-eq.result.now ≡ degree_of_small r.x = ap degree_of_small c.get-then-eq.ensures in
    let second : degree_of_small c.get-then-eq-2.result.now ≡ degree_of_small r.y = ap degree_of_small c.get-then-eq-2.ensures in
    let below : degree_of_small c.get-then-eq.result.now < 4294967295 = omega (arith, k.1, first) in
    through _ _ _ _ _ r.is-0 r.is-1
    (c.cmp_level.ensures (first ∙ k.0 ∙ sym second) below ∙ (λ i. small_cmp (c.get-then-eq.ensures i) (c.get-then-eq-2.ensures i)) ∙ sym (same_left r.a r.x r.b r.y lefts))

pub cmp_level-returns-else-eq : goal.cmp_level-returns-else-eq
cmp_level-returns-else-eq t c = λ e h.
    let r = c.in-Pair-Pair in
    let lefts : eq_by_cmp small_cmp r.a r.b ≡ false = (λ i. eq_by_cmp small_cmp (sym c.get.ensures i) (sym c.get-in-Pair-Pair.ensures i)) ∙ sym c.eq.ensures ∙ c.if-eq.false in
    let result : c.cmp_counted.result ≡ small_cmp c.get-in-Pair-Pair-3.result.now c.get-in-Pair-Pair-4.result.now =
    c.cmp_counted.ensures (c.small_degree-m.ensures ∙ ap degree_of_small (c.get-in-Pair-Pair-2.ensures ∙ sym c.get-in-Pair-Pair-3.ensures))
    (c.small_degree.ensures ∙ ap degree_of_small (c.get-in-Pair-Pair-5.ensures ∙ sym c.get-in-Pair-Pair-4.ensures)) in
    through _ _ _ _ _ r.is-0 r.is-1
    (result ∙ (λ i. small_cmp (c.get-in-Pair-Pair-3.ensures i) (c.get-in-Pair-Pair-4.ensures i))
    ∙ sym (other_left r.a r.x r.b r.y lefts ∙ in_one_degree _ _ (small_cmp r.a r.b) (pair_degrees c.args.c.now c.args.d.now r.a r.x r.b r.y r.is-0 r.is-1 e)))

pub cmp_level-returns-in-One-One : goal.cmp_level-returns-in-One-One
cmp_level-returns-in-One-One t c = λ e h.
    through _ _ _ _ _ c.in-One-One.is-0 c.in-One-One.is-1 (c.cmp.ensures ∙ sym (by_ones c.in-One-One.x c.in-One-One.y))

pub cmp_level-returns-in-Up-Up : goal.cmp_level-returns-in-Up-Up
cmp_level-returns-in-Up-Up t c = λ e h.
    let r = c.in-Up-Up in
    let k = below_degrees r.x r.y (degree_of_small c.args.c.now) (ap degree_of_small r.is-0 ∙ degree-Up r.x) (e ∙ ap degree_of_small r.is-1 ∙ degree-Up r.y) h in
    let first : degree_of_small c.get-in-Up-Up.result.now ≡ degree_of_small r.x = ap degree_of_small c.get-in-Up-Up.ensures in
    let second : degree_of_small c.get-in-Up-Up-2.result.now ≡ degree_of_small r.y = ap degree_of_small c.get-in-Up-Up-2.ensures in
    let below : degree_of_small c.get-in-Up-Up.result.now < 4294967295 = omega (arith, k.1, first) in
    through _ _ _ _ _ r.is-0 r.is-1
    (c.cmp_level-in-Up-Up.ensures (first ∙ k.0 ∙ sym second) below ∙ (λ i. small_cmp (c.get-in-Up-Up.ensures i) (c.get-in-Up-Up-2.ensures i)) ∙ sym (by_ups r.x r.y))

pub cmp_level-returns-in-Word-Word : goal.cmp_level-returns-in-Word-Word
cmp_level-returns-in-Word-Word t c = λ e h.
    level_words c.args.c.now c.args.d.now c.in-Word-Word.v c.in-Word-Word.w c.cmp_words.result c.in-Word-Word.is-0 c.in-Word-Word.is-1 e
    (c.cmp_words.ensures ∙ (λ i. slice_cmp small_cmp (c.as_slice.ensures i) (c.as_slice-in-Word-Word.ensures i)))

pub cmp_level-returns-in_default : goal.cmp_level-returns-in_default
cmp_level-returns-in_default t c = λ e h.
    unlike_level c.args.c.now c.args.d.now c.cmp-in_default.result (c.cmp-in_default.ensures ∙ (λ i. nat_cmp (c.kind.ensures i) (c.kind-in_default.ensures i))) e
    (elim c.in_default.branch [
      | cmp_level-in_default-via-in-One+in_default w ↦ not_one _ _ _ w.in_default.is-0 w.in_default.not-One-1
      | cmp_level-in_default-via-in-Pair+in_default w ↦ not_pair _ _ _ _ w.in_default.is-0 w.in_default.not-Pair-1
      | cmp_level-in_default-via-in-Up+in_default w ↦ not_up _ _ _ w.in_default.is-0 w.in_default.not-Up-1
      | cmp_level-in_default-via-in-Word+in_default w ↦ not_word _ _ _ w.in_default.is-0 w.in_default.not-Word-1
    ])
