use Rattle.twist_laws.proofs.Instances.{bundles-transfer}
use Rattle.twist_laws.proofs.bundles.bundles_lower_by_two.Goals as goal

pub returns : goal.returns
returns c = λ p t values P pos ad is. bundles-transfer p pos t values ad.0 P is
