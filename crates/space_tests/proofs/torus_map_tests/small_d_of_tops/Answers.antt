use Rattle.std.proofs.Common.{lit≤}
use Rattle.space_tests.proofs.TorusCells.{tops-tensor}
use Rattle.space_tests.proofs.torus_map_tests.small_d_of_tops.Goals as goal

pub small_d-requires-clause-key : goal.small_d-requires-clause-key
small_d-requires-clause-key c = (
  2,
  tops-tensor c.torus_pairs-whole.result.faces.left.term.now c.torus_pairs-whole.result.faces.right.term.now c.torus_pairs-whole.result.faces.most c.tops.result c.torus_pairs-whole.ensures.left c.torus_pairs-whole.ensures.right c.tops.ensures.left c.tops.ensures.right,
  lit≤ tt,
)
