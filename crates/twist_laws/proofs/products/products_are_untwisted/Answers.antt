use Rattle.twist_laws.proofs.Instances.{products-lower, products-transfer}
use Rattle.twist_laws.proofs.products.products_are_untwisted.Goals as goal

pub returns : goal.returns
returns c = record { lowers = λ p a b pos. products-lower p pos a b; transfers = λ p a b P z pos. products-transfer p pos a b P z }
