use Rattle.std.proofs.Common.{◌+◌, ◌<◌, sym, ◌∙◌, ap, subst, arith}
use Rattle.simp_ops.specs.Bits.{bit}
use Rattle.simp_ops.proofs.Masks.{count_below_le}
use Rattle.path_words.proofs.MaskTests.{Counted, count_more, count_same, apart, all_counted}
use Rattle.path_words.proofs.events.pairs.Goals as goal
use Rattle.path_words.proofs.events.pairs.Goals.{then-has, else-has}

pub overflow_add-count : goal.overflow_add-count
overflow_add-count c = omega (arith, c.args.w.now.short, count_below_le c.loop-j.j (bit c.args.w.now.left.mask))

pub loop-j-preserved : goal.loop-j-preserved
loop-j-preserved c =
    let w = c.args.w.now in
    let a = w.left.mask in
    let b = w.right.mask in
    let j = c.loop-j.j in
    let h : j < 32 = omega (arith, w.short) in
    elim c.if-has.branch [
      | then-has v ↦ subst (Counted a b (j + 1)) (ap (λ k. c.loop-j.count + k) (sym v.count_below-count.ensures) ∙ sym v.count-is) (count_more w.len a b j c.loop-j.count (apart w.len a b w.left_below w.right_below w.disjoint) h (sym c.has.ensures ∙ v.if-has.true) c.loop-j.invariant)
      | else-has v ↦ subst (Counted a b (j + 1)) (sym v.count-is) (count_same a b j c.loop-j.count (sym c.has.ensures ∙ v.if-has.false) c.loop-j.invariant)
    ]

pub returns : goal.returns
returns c =
    let w = c.args.w.now in
    all_counted w.len w.left.mask w.right.mask c.loop-j.j c.loop-j.count (omega arith) c.loop-j.invariant
