-- A refusal of what is needed is the refusal of what needs it.
--
--   where the small cells of degree 2 are past a limit, the cycles of degree 2 have that refusal, with the key of the small cells
use Rattle.std.specs.Prelude.{◌≡◌}
use Rattle.oracle_iface.specs.declared.bodies.Outcome.{Outcome}
use Rattle.oracle_iface.specs.declared.bodies.Outcome.TheVariants.{Value, Over as IsOver}

abbrev pub StaysRefused : Outcome → Outcome → Type 0
StaysRefused (Value b) o = Unit {0}
StaysRefused (IsOver w) o = o ≡ IsOver w
