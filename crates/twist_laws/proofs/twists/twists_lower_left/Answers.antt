use Rattle.twist_laws.proofs.Instances.{twists-lower}
use Rattle.twist_laws.proofs.twists.twists_lower_left.Goals as goal

pub returns : goal.returns
returns c = λ p a b t times pos ad bd w. twists-lower p pos a b ad.0 bd.0 t times w
