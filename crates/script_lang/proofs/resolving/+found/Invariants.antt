use Rattle.std.proofs.Common.{◌+◌, ◌*◌, max}
use Rattle.spaces.specs.Allowed.{space_depth}
use Rattle.term_lang.specs.SpaceOf.{space_of}
use Rattle.script_lang.proofs.resolving.+found.Given as goal

abbrev pub decreases-simplex_of : goal.decreases-simplex_of
decreases-simplex_of l = 3 * space_depth (space_of l.t.now) + 2

abbrev pub decreases-body_of : goal.decreases-body_of
decreases-body_of l = 3 * space_depth (space_of l.t.now) + 1

abbrev pub decreases-suspended : goal.decreases-suspended
decreases-suspended l = 3 * space_depth (space_of l.part.now) + 3

abbrev pub decreases-multiplied : goal.decreases-multiplied
decreases-multiplied l = 3 * max (space_depth (space_of l.left.now)) (space_depth (space_of l.right.now)) + 3
