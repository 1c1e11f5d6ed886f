use Rattle.std.proofs.lemmas.Bool.{false≢true}
use Rattle.session_core.proofs.PrimeNumbers.{no_prime}
use Rattle.session_core.proofs.settings.told_prime.Goals as goal

pub returns-in-None-clause-stops : goal.returns-in-None-clause-stops
returns-in-None-clause-stops c = no_prime c.args.n (λ h. false≢true (c.in-None.ensures.some.1 h))
