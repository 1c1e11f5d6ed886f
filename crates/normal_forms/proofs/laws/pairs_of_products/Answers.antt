use Rattle.normal_forms.proofs.BuiltPairs.{product_paired, product_parted, product_parts}
use Rattle.normal_forms.proofs.laws.pairs_of_products.Goals as goal

pub returns : goal.returns
returns c = record { paired = product_paired; parts = product_parted; have_parts = product_parts }
