-- The value of a key as the code has it.
--
--   the value of the key of G at One(Top(2)) of the sphere of dimension 2 is the chain of Top(2)
use Rattle.std.specs.Prelude.{◌≡◌}
use Rattle.fp_field.specs.Field.{number}
use Rattle.values.specs.Values.{value}
use Rattle.oracle_iface.specs.declared.keys.Key.{Key}
use Rattle.oracle_iface.specs.declared.bodies.Body.{Body}
use Rattle.oracle_iface.specs.Keys.{question_of, quote_body}

abbrev pub HasValue : Key → Body → Type 0
HasValue k b = b ≡ quote_body k.prime (question_of k) (value (number k.prime) (question_of k))
