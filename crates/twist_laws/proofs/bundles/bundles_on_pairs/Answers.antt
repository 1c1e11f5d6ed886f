use Rattle.twist_laws.proofs.Instances.{bundles-same, bundles-complex}
use Rattle.twist_laws.proofs.bundles.bundles_on_pairs.Goals as goal

pub returns : goal.returns
returns c = λ p t values pos ad. (bundles-same p pos t values ad.0, bundles-complex p pos t values ad.0)
