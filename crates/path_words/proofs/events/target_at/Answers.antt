use Rattle.std.proofs.Common.{◌+◌, ◌≤◌, arith}
use Rattle.path_words.specs.MaskPaths.{mask_path}
use Rattle.path_words.proofs.MaskTests.{both_of, short_source, target_made, target_no_source}
use Rattle.path_words.proofs.events.target_at.Goals as goal

pub with-requires-clause-index : goal.with-requires-clause-index
with-requires-clause-index c =
    let w = c.args.w.now in
    omega (arith, (both_of w.len w.left.mask w.right.mask c.args.j w.left_below w.right_below w.disjoint c.requires).within, w.short)

pub overflow_add-j : goal.overflow_add-j
overflow_add-j c =
    let w = c.args.w.now in
    omega (arith, (both_of w.len w.left.mask w.right.mask c.args.j w.left_below w.right_below w.disjoint c.requires).within, w.short)

pub with-requires-2-clause-index : goal.with-requires-2-clause-index
with-requires-2-clause-index c =
    let w = c.args.w.now in
    let small : w.len ≤ 31 = w.room (short_source w.len w.left.mask w.right.mask c.args.j c.requires) in
    omega (arith, (both_of w.len w.left.mask w.right.mask c.args.j w.left_below w.right_below w.disjoint c.requires).within)

pub invariant_of-result : goal.invariant_of-result
invariant_of-result c =
    let w = c.args.w.now in
    let small : w.len ≤ 31 = w.room (short_source w.len w.left.mask w.right.mask c.args.j c.requires) in
    let made = target_made w.len w.left.mask w.right.mask c.args.j c.with.result.mask c.with-2.result.mask w.left_below w.right_below w.disjoint c.requires small
    c.with.result.below_32 c.with-2.result.below_32 c.with.ensures c.with-2.ensures in
    record {
      left_below = made.masks.left;
      right_below = made.masks.right;
      disjoint = made.masks.disjoint;
      short = omega (arith, small);
      room = λ s. absurd (target_no_source (mask_path w.len w.left.mask w.right.mask) (mask_path (w.len + 1) c.with.result.mask c.with-2.result.mask) c.args.j c.requires made.word s);
    }

pub returns : goal.returns
returns c =
    let w = c.args.w.now in
    let small : w.len ≤ 31 = w.room (short_source w.len w.left.mask w.right.mask c.args.j c.requires) in
    (target_made w.len w.left.mask w.right.mask c.args.j c.with.result.mask c.with-2.result.mask w.left_below w.right_below w.disjoint c.requires small
    c.with.result.below_32 c.with-2.result.below_32 c.with.ensures c.with-2.ensures).word
