use Rattle.ez_laws.proofs.Orderings.{ordered-right}
use Rattle.ez_laws.proofs.Sided.{space-left}
use Rattle.ez_laws.proofs.pairs.spaces_are_sides.Goals as goal

pub returns : goal.returns
returns c = λ p a pos ad. (ordered-right a ad.0, space-left p pos a ad.0)
