use Rattle.ez_laws.proofs.Sided.{word-flow}
use Rattle.ez_laws.proofs.letters.letter_flow_is_one.Goals as goal

pub returns : goal.returns
returns c = λ p a pos ad. word-flow p pos a ad.0
