use Rattle.std.proofs.Common.{arith}
use Rattle.path_words.proofs.MaskTests.{turn_of, source_made}
use Rattle.path_words.proofs.events.source_at.Goals as goal

pub overflow_sub-result : goal.overflow_sub-result
overflow_sub-result c =
    let w = c.args.w.now in
    omega (arith, (turn_of w.len w.left.mask w.right.mask c.args.j w.left_below w.right_below w.disjoint c.requires).within)

pub without-requires : goal.without-requires
without-requires c =
    let w = c.args.w.now in
    omega (arith, (turn_of w.len w.left.mask w.right.mask c.args.j w.left_below w.right_below w.disjoint c.requires).within, w.short)

pub overflow_add-j : goal.overflow_add-j
overflow_add-j c =
    let w = c.args.w.now in
    omega (arith, (turn_of w.len w.left.mask w.right.mask c.args.j w.left_below w.right_below w.disjoint c.requires).within, w.short)

pub without-requires-2 : goal.without-requires-2
without-requires-2 c =
    let w = c.args.w.now in
    omega (arith, (turn_of w.len w.left.mask w.right.mask c.args.j w.left_below w.right_below w.disjoint c.requires).within, w.short)

pub invariant_of-result : goal.invariant_of-result
invariant_of-result c =
    let w = c.args.w.now in
    let made = source_made w.len w.left.mask w.right.mask c.args.j c.without.result.mask c.without-2.result.mask w.left_below w.right_below w.disjoint c.requires w.short
    c.without.result.below_32 c.without-2.result.below_32 c.without.ensures c.without-2.ensures in
    record { left_below = made.masks.left; right_below = made.masks.right; disjoint = made.masks.disjoint; short = omega (arith, w.short); room = λ s. omega (arith, w.short) }

pub returns : goal.returns
returns c =
    let w = c.args.w.now in
    (source_made w.len w.left.mask w.right.mask c.args.j c.without.result.mask c.without-2.result.mask w.left_below w.right_below w.disjoint c.requires w.short
    c.without.result.below_32 c.without-2.result.below_32 c.without.ensures c.without-2.ensures).word
