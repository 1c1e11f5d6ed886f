-- A fault of `map_linear`: a refusal of the source, or want of memory. The words follow the exact homotopy
-- computations of Rubio and Sergeraert, in which each map may ask for other values.
--
--   a stop that is the refusal r counts as r, and want of memory as none
use Rattle.std.specs.Prelude.{ℕ, List, Option, None}
use Rattle.chain_core.specs.declared.maps.MapFault.{MapFault}
use Rattle.chain_core.specs.declared.maps.MapFault.TheVariants.{Stop, Memory}
use Rattle.chain_core.specs.Asks.{StoppedAtKey}

-- the refusal that a fault is, or none where it is want of memory
abbrev pub stop_of : {E R : Type 0} → (E → Option R) → MapFault E → Option R
stop_of refused (Stop e) = refused e
stop_of refused Memory = None

-- a stop is what the map answered on the first key on which it stopped
abbrev pub StopsAtKey : {S K A R E : Type 0} → (S → List A → S → Type 0) → (A → Option R) → (E → Option R) → (K → List A) → S → List (K × ℕ) → S → MapFault E → Type 0
StopsAtKey runs refusal refused asks old terms new (Stop e) = StoppedAtKey runs refusal asks old terms new (refused e)
StopsAtKey runs refusal refused asks old terms new Memory = Unit {0}
