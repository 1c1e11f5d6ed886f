use Rattle.ez_laws.proofs.Sided.{product-flow}
use Rattle.ez_laws.proofs.pairs.product_flow_is_one.Goals as goal

pub returns : goal.returns
returns c = λ p a b pos ad bd. product-flow p pos a b ad.0 bd.0
