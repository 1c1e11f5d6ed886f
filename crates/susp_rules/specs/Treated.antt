-- The keys that there is a rule for: the valid ones about a space that is built, which is a table, a sphere, K(Z,1), a circle bundle, or what
-- products and suspensions make of these (May, Simplicial Objects in Algebraic Topology, chapters I, IV and VI). Sessions answer for these.
--
--   the cycles of degree 1 of the product of K(Z,1) and a suspension are treated, and those of the loop group of a sphere are not
use Rattle.term_lang.specs.SpaceOf.{space_of}
use Rattle.oracle_iface.specs.declared.keys.Key.{Key}
use Rattle.oracle_iface.specs.Keys.{IsValidKey}
use Rattle.normal_forms.specs.Built.{IsBuilt}

abbrev pub IsTreated : Key → Type 0
IsTreated k = IsValidKey k × IsBuilt (space_of k.term)
