use Rattle.std.proofs.Common.{arith}
use Rattle.std.proofs.lemmas.Grind.{common_steps}
use Rattle.kz1_group.proofs.Calls.{times-next}
use Rattle.kz1_group.proofs.groups.ints_mul.Goals as goal

pub loop-i-preserved : goal.loop-i-preserved
loop-i-preserved c = grind (arith, common_steps, times-next)
