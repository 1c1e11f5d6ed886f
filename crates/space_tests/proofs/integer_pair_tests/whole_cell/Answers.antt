use Rattle.std.proofs.lemmas.Result.{IfOk-weaker}
use Rattle.space_tests.proofs.IntegerPairs.{whole-pair}
use Rattle.space_tests.proofs.integer_pair_tests.whole_cell.Goals as goal

pub returns : goal.returns
returns c = IfOk-weaker c.pair_cell.result _ _
    (λ r e. whole-pair c.over_top.result c.in_ok-right.right c.over_top.ensures.mask c.over_top.ensures.cell c.in_ok-right.ensures.mask c.in_ok-right.ensures.cell r e) c.pair_cell.ensures
