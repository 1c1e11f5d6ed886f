use Rattle.std.proofs.Common.{arith, ◌∙◌, ap}
use Rattle.simp_ops.specs.PathWords.{source}
use Rattle.path_words.proofs.MaskTests.{found-target, found-source, found-none}
use Rattle.path_words.proofs.events.event_of.Goals as goal

pub returns-then-turn-moving : goal.returns-then-turn-moving
returns-then-turn-moving c =
    let w = c.args.w.now in
    found-target w.len w.left.mask w.right.mask w.left_below w.right_below w.disjoint w.short w.left.below_32 w.right.below_32 (omega arith)

pub returns-then-moving-w : goal.returns-then-moving-w
returns-then-moving-w c =
    let w = c.args.w.now in
    ap source c.trailing_ones-moving.ensures
    ∙ found-source w.len w.left.mask w.right.mask w.left_below w.right_below w.disjoint w.short w.left.below_32 w.right.below_32 (omega arith) (omega arith)

pub returns-else-moving-w : goal.returns-else-moving-w
returns-else-moving-w c =
    let w = c.args.w.now in
    found-none w.len w.left.mask w.right.mask w.left_below w.right_below w.disjoint w.short w.left.below_32 w.right.below_32 (omega arith) (omega arith)
