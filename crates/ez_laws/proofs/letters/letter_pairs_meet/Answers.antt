use Rattle.ez_laws.proofs.Sided.{words}
use Rattle.ez_laws.proofs.letters.letter_pairs_meet.Goals as goal

pub returns : goal.returns
returns c = λ p a pos ad. words p pos a ad.0
