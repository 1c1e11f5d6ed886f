use Rattle.std.proofs.Common.{◌+◌, ◌*◌}
use Rattle.force_engine.specs.Fronts.{key_rank}
use Rattle.force_engine.proofs.forcing.+force.Given as goal

abbrev pub decreases-compute-closure : goal.decreases-compute-closure
decreases-compute-closure g l = 3 * key_rank l.needed + 2

abbrev pub decreases-compute : goal.decreases-compute
decreases-compute g l = 3 * key_rank l.key

abbrev pub decreases-force_with : goal.decreases-force_with
decreases-force_with g l = 3 * key_rank l.key + 1
