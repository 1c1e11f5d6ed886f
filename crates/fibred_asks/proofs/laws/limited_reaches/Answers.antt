use Rattle.fibred_asks.proofs.CappedReach.{reach-limited}
use Rattle.fibred_asks.proofs.laws.limited_reaches.Goals as goal

pub returns : goal.returns
returns c = λ a n x is built h l e. reach-limited a is built n x l h e
