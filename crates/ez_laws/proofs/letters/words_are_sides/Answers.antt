use Rattle.spaces.specs.Spaces.{loops}
use Rattle.ez_laws.proofs.Orderings.{ordered-right}
use Rattle.ez_laws.proofs.Sided.{letter-left}
use Rattle.ez_laws.proofs.letters.words_are_sides.Goals as goal

pub returns : goal.returns
returns c = λ p a pos ad. (ordered-right (loops a) ad.0, letter-left p pos a ad.0)
