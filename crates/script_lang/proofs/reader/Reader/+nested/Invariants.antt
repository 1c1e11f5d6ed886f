use Rattle.std.proofs.Common.{◌+◌, ◌*◌}
use Rattle.script_lang.proofs.reader.Reader.+nested.Given as goal

abbrev pub decreases-space : goal.decreases-space
decreases-space l = 4 * l.room

abbrev pub decreases-product : goal.decreases-product
decreases-product l = 4 * l.room + 1

abbrev pub decreases-suspension : goal.decreases-suspension
decreases-suspension l = 4 * l.room + 1

abbrev pub decreases-loops : goal.decreases-loops
decreases-loops l = 4 * l.room + 1

abbrev pub decreases-paths : goal.decreases-paths
decreases-paths l = 4 * l.room + 1

abbrev pub decreases-bundle : goal.decreases-bundle
decreases-bundle l = 4 * l.room + 1

abbrev pub decreases-space_behind : goal.decreases-space_behind
decreases-space_behind l = 4 * l.room + 2

abbrev pub decreases-enclosed : goal.decreases-enclosed
decreases-enclosed l = 4 * l.room + 3
