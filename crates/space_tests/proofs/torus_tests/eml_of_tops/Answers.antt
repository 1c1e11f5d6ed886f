use Rattle.std.proofs.Common.{lit≤}
use Rattle.space_tests.proofs.TorusCells.{tops-tensor}
use Rattle.space_tests.proofs.torus_tests.eml_of_tops.Goals as goal

pub eml-requires : goal.eml-requires
eml-requires c =
    (2, tops-tensor c.torus-whole.result.left.term.now c.torus-whole.result.right.term.now c.torus-whole.result.most c.tops.result c.torus-whole.ensures.left c.torus-whole.ensures.right c.tops.ensures.left c.tops.ensures.right, lit≤ tt)
