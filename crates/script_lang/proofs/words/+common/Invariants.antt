use Rattle.std.proofs.Common.{length}
use Rattle.script_lang.proofs.words.+common.Given as goal

abbrev pub decreases-common : goal.decreases-common
decreases-common l = length l.run.now
