use Rattle.ez_laws.proofs.Sided.{product-dims}
use Rattle.ez_laws.proofs.pairs.products_keep_left.Goals as goal

pub returns : goal.returns
returns c = λ p a b pos ad bd. product-dims p pos a b ad.0 bd.0
