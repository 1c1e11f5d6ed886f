-- G along a chain of the small complex, as a right side, and right sides whose questions are valid (Rubio and Sergeraert, Constructive Homological
-- Algebra and Applications, on the maps of a reduction).
--
--   on 2 y of the small cell y of a circle, G is asked at y, and twice its value is given
use Rattle.fp_field.specs.declared.prime.Prime.{Prime}
use Rattle.fp_field.specs.Field.{number}
use Rattle.fp_field.specs.Chains.{Terms}
use Rattle.cells.specs.declared.cells.SmallCell.{SmallCell}
use Rattle.spaces.specs.Spaces.{Space}
use Rattle.spaces.specs.Orders.{ordered, by_degree}
use Rattle.spaces.specs.SmallCells.{Small}
use Rattle.values.specs.Asks.{Right, ask, g, Cell as GradedCell, on_chain, asked_with}
use Rattle.values.specs.Ranks.{IsValid}
use Rattle.values.specs.Values.{value}
use Rattle.values.proofs.Readings.{EachAsk}
use Rattle.std.specs.Prelude.{map}
use Rattle.oracle_iface.specs.SmallForms.{small_form}

-- the questions of a right side are valid
abbrev pub AsksValid : {A : Type 0} → Prime → Right A → Type 0
AsksValid p r = EachAsk (IsValid (number p)) (asked_with (value (number p)) r)

module _ (p : Prime) (a : Space) where
  abbrev pub g_along : Terms (Small a) → Right (Terms (GradedCell a))
  g_along c = on_chain (by_degree (ordered a).cmp) (number p) (λ y. ask (g a y)) c

-- the small cells that those of the code stand for
abbrev pub read_smalls : (a : Space) → Terms SmallCell → Terms (Small a)
read_smalls a c = map (λ t. (small_form t.0 a, t.1)) c
