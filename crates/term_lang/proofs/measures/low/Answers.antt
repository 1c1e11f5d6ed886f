use Rattle.std.proofs.Common.{sym, subst}
use Rattle.spaces.specs.Counts.{IsLow}
use Rattle.spaces.specs.Spaces.{set_of}
use Rattle.spaces.proofs.SpaceLows.{space_low}
use Rattle.term_lang.specs.SpaceOf.{space_of}
use Rattle.term_lang.proofs.measures.low.Goals as goal

pub returns-clause-lowest : goal.returns-clause-lowest
returns-clause-lowest c =
    let a = space_of c.args.t.now in
    subst (IsLow (set_of a)) (sym c.lowest.ensures) (space_low a c.requires.0)
