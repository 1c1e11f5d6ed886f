use Rattle.std.proofs.lemmas.Result.{IfOk-weaker}
use Rattle.space_tests.proofs.TorusCells.{square-pair}
use Rattle.space_tests.proofs.torus_tests.square.Goals as goal

pub returns : goal.returns
returns c = IfOk-weaker c.pair_cell.result _ _
    (λ r e. square-pair c.edge.result c.edge-2.result c.edge.ensures.mask c.edge.ensures.cell c.edge-2.ensures.mask c.edge-2.ensures.cell r e) c.pair_cell.ensures
