use Rattle.std.proofs.Common.{◌+◌, ◌*◌}
use Rattle.ez_maps.proofs.shuffles.+shuffles.Given as goal

abbrev pub decreases-push_after_left : goal.decreases-push_after_left
decreases-push_after_left g l = 2 * (l.word.lefts + l.word.rights)

abbrev pub decreases-push_after_right : goal.decreases-push_after_right
decreases-push_after_right g l = 2 * (l.word.lefts + l.word.rights)

abbrev pub decreases-push_shuffles : goal.decreases-push_shuffles
decreases-push_shuffles g l = 2 * (l.word.lefts + l.word.rights) + 1
