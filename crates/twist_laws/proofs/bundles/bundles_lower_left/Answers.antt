use Rattle.twist_laws.proofs.Instances.{bundles-lower}
use Rattle.twist_laws.proofs.bundles.bundles_lower_left.Goals as goal

pub returns : goal.returns
returns c = λ p t values pos ad. bundles-lower p pos t values ad.0
