-- What a rule owes for a key, from what its right side comes to.
--
-- The keys of a rule's right side are those of the needs of the key. The outcome is what the right side comes to, under the limits on its
-- value (Rubio and Sergeraert, Constructive Homological Algebra and Applications, on effective homology).
--
--   for the small cells of degree 0 of a product the keys are those of the small cells of degree 0 of base and fibre
use Rattle.std.specs.Prelude.{◌≡◌, List, map, None, All}
use Rattle.fp_field.specs.Field.{number}
use Rattle.values.specs.Values.{right_side}
use Rattle.oracle_iface.specs.declared.keys.Key.{Key}
use Rattle.oracle_iface.specs.declared.bodies.Body.{Body}
use Rattle.oracle_iface.specs.declared.bodies.Outcome.{Outcome}
use Rattle.oracle_iface.specs.declared.bodies.Outcome.TheVariants.{Value, Over}
use Rattle.oracle_iface.specs.KeyLaws.{IsReadBack}
use Rattle.oracle_iface.specs.Keys.{question_of, key_of, needs_of, quote_body}
use Rattle.homology_rules.specs.Asking.{first_refusal}
use Rattle.part_asks.specs.declared.found.Found.{Found}
use Rattle.part_asks.specs.Reading.{IsFound}

-- the keys of the needs of a key, in the order of evaluation
abbrev pub keys_needed : Key → List Key
keys_needed k = map (key_of k.prime) (needs_of k)

-- what the right side of the rule of a key comes to
abbrev pub IsFoundFor : Key → Found Body → Type 0
IsFoundFor k o = IsFound (quote_body k.prime (question_of k)) k.prime (right_side (number k.prime) (question_of k)) o

-- each need of the key is read back from its own key
abbrev pub NeedsReadBack : Key → Type 0
NeedsReadBack k = All (IsReadBack k.prime) (needs_of k)

-- where the outcome is a value, none of the keys is refused
abbrev pub IsUnrefused : List Key → Outcome → Type 0
IsUnrefused ks (Value b) = first_refusal ks ≡ None
IsUnrefused ks (Over w) = Unit {0}
