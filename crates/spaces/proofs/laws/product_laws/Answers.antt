use Rattle.spaces.specs.Spaces.{set_of}
use Rattle.spaces.proofs.Products.{product_set_laws}
use Rattle.spaces.proofs.laws.product_laws.Goals as goal

pub returns : goal.returns
returns c = λ a b x y. product_set_laws (set_of a) (set_of b) x y
