use Rattle.spaces.specs.Allowed.{space_depth}
use Rattle.term_lang.specs.SpaceOf.{space_of}
use Rattle.term_lang.proofs.measures.+lowest.Given as goal

abbrev pub decreases-lowest : goal.decreases-lowest
decreases-lowest l = space_depth (space_of l.t.now)
