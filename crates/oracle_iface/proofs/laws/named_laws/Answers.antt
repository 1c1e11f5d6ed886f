use Rattle.oracle_iface.proofs.Named.{named-sphere, named-kz1, table-rows, named-table, residues-unnamed, cyclic-unnamed, product-parts, named-product, suspension-part, named-suspension, bundle-base, named-bundle, loops-part, named-loops, paths-part, named-paths}
use Rattle.oracle_iface.proofs.laws.named_laws.Goals as goal

pub returns : goal.returns
returns c = record {
  sphere = named-sphere;
  integers = named-kz1;
  table = λ t. (table-rows t, named-table t);
  product = λ a b. (product-parts a b, λ h. named-product a b h.0 h.1);
  suspension = λ a. (suspension-part a, named-suspension a);
  bundle = λ t v. (bundle-base t v, named-bundle t v);
  loops = λ a. (loops-part a, named-loops a);
  paths = λ a. (paths-part a, named-paths a);
  residues = residues-unnamed;
  cyclic_bundle = cyclic-unnamed;
}
