use Rattle.std.proofs.Common.{◌-◌}
use Rattle.ez_maps.proofs.fronts.+push_cuts.Given as goal

abbrev pub decreases-push_cuts : goal.decreases-push_cuts
decreases-push_cuts g l = l.n - l.i
