use Rattle.twist_laws.proofs.Instances.{twists-transfer}
use Rattle.twist_laws.proofs.twists.twists_lower_by_two.Goals as goal

pub returns : goal.returns
returns c = λ p a b t times P pos ad bd w one is. twists-transfer p pos a b ad.0 bd.0 t times w one P is
