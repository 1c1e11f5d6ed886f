use Rattle.simp_ops.proofs.OperatorLaws.{identities}
use Rattle.simp_ops.proofs.laws.word_identities.Goals as goal

pub returns : goal.returns
returns c = identities
