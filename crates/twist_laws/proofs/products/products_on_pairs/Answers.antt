use Rattle.twist_laws.proofs.Instances.{products-same, products-complex}
use Rattle.twist_laws.proofs.products.products_on_pairs.Goals as goal

pub returns : goal.returns
returns c = λ p a b pos ad bd. (products-same p pos a b ad.0 bd.0, products-complex p pos a b ad.0 bd.0)
