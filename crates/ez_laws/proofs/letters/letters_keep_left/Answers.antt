use Rattle.ez_laws.proofs.Sided.{word-dims}
use Rattle.ez_laws.proofs.letters.letters_keep_left.Goals as goal

pub returns : goal.returns
returns c = λ p a pos ad. word-dims p pos a ad.0
