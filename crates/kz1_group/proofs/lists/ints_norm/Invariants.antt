use Rattle.kz1_group.proofs.Norming.{Norming}
use Rattle.kz1_group.proofs.lists.ints_norm.Given as goal

abbrev pub invariant-loop-i : goal.invariant-loop-i
invariant-loop-i l = Norming l.items l.mask l.cell l.i
