use Rattle.std.proofs.Common.{refl}
use Rattle.std.proofs.lemmas.List.Elements.{All-from_recursion}
use Rattle.std.specs.Prelude.{map}
use Rattle.fp_field.specs.Chains.{Each}
use Rattle.values.specs.Asks.{basis, small_d}
use Rattle.values.specs.Values.{value}
use Rattle.homology_rules.specs.Shown.{IsSmallShown}
use Rattle.homology_rules.proofs.ShownRows.{table-shown, sphere-shown}
use Rattle.homology_rules.proofs.TypedCycles.{all-shown, d-shown}
use Rattle.homology_rules.proofs.typed.shown_laws.Goals as goal

pub returns : goal.returns
returns c = record {
  tables = table-shown;
  spheres = sphere-shown;
  image_of_top = refl;
  boundary_of_top = refl;
  listed = λ p a n allowed low. All-from_recursion (IsSmallShown a) (value p (basis a n)) (all-shown p a n allowed low);
  small_differentials = λ p a n allowed low shown.
      All-from_recursion (Each (IsSmallShown a)) (map (λ y. value p (small_d a y)) (value p (basis a n))) (d-shown p a n allowed low shown);
}
