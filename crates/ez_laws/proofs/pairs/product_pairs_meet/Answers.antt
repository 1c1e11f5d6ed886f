use Rattle.ez_laws.proofs.Sided.{products}
use Rattle.ez_laws.proofs.pairs.product_pairs_meet.Goals as goal

pub returns : goal.returns
returns c = λ p a b pos ad bd. products p pos a b ad.0 bd.0
