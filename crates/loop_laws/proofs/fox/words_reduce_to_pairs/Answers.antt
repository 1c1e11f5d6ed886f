use Rattle.loop_laws.proofs.FoxReduction.{fox-reduction}
use Rattle.loop_laws.proofs.fox.words_reduce_to_pairs.Goals as goal

pub returns : goal.returns
returns c = λ p a pos ad. fox-reduction p pos a ad.0
