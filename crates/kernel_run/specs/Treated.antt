-- Rules for all keys that a session asks for.
--
-- Main definition: `TreatsAll`.
-- Worked value: rules for valid keys about tables, spheres, K(Z,1), circle bundles, and products and suspensions of these are such rules;
-- rules without those of products are not, since a session may ask for the small cells of the product of two spheres.
use Rattle.oracle_iface.specs.declared.keys.Key.{Key}
use Rattle.susp_rules.specs.Treated.{IsTreated}

-- there is a rule for each valid key about a space that is built
abbrev pub TreatsAll : (Key → Type 0) → Type 0
TreatsAll treats = (k : Key) → IsTreated k → treats k
