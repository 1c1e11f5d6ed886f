-- The keys that a right side asks for, in order, and what its evaluation comes to: its value, read from the values of all questions, or
-- the first refusal along its keys (Rubio and Sergeraert, Constructive Homological Algebra and Applications, on the rules of reductions).
--
--   a right side that asks for F at a cell x and then gives its chain twice has one key; where F at x is not refused, it comes to twice
--   the chain of F at x
use Rattle.std.specs.Prelude.{◌≡◌, List, map, Some, None}
use Rattle.fp_field.specs.declared.prime.Prime.{Prime}
use Rattle.fp_field.specs.Field.{number}
use Rattle.values.specs.Asks.{Right, value_with, asked_with}
use Rattle.values.specs.Values.{value}
use Rattle.oracle_iface.specs.declared.keys.Key.{Key}
use Rattle.oracle_iface.specs.Keys.{key_of}
use Rattle.homology_rules.specs.Asking.{first_refusal}
use Rattle.part_asks.specs.declared.found.Found.{Found}
use Rattle.part_asks.specs.declared.found.Found.TheVariants.{Value, Over}

-- the keys, in the order of evaluation
abbrev pub keys_of : {A : Type 0} → Prime → Right A → List Key
keys_of p r = map (key_of p) (asked_with (value (number p)) r)

-- the value
abbrev pub value_of : {A : Type 0} → Prime → Right A → A
value_of p r = value_with (value (number p)) r

-- what is found: the value as the code has it, where no key is refused, or the first refusal
abbrev pub IsFound : {A T : Type 0} → (A → T) → Prime → Right A → Found T → Type 0
IsFound quote p r (Value v) = (first_refusal (keys_of p r) ≡ None) × (v ≡ quote (value_of p r))
IsFound quote p r (Over w) = first_refusal (keys_of p r) ≡ Some w
