-- The order of keys, by operation, prime, place and then term, and the test whether two keys are the same.
--
--   the key of the cycles of degree 2 of a sphere stands after that of its small cells of degree 3, since Cycles comes after Basis
use Rattle.std.specs.Prelude.{Bool}
use Rattle.std.specs.declared.cmp.Ordering.{Ordering}
use Rattle.std.specs.Ordering.{is_eq}
use Rattle.oracle_iface.specs.declared.keys.Key.{Key}
use Rattle.oracle_iface.specs.contracts.keys.KeyOrd.TheImpl as key_order

abbrev pub key_cmp : Key → Key → Ordering
key_cmp = (key_order.ghosts).cmp

-- whether two keys are the same: see `one_key`
abbrev pub same_key : Key → Key → Bool
same_key a b = is_eq (key_cmp a b)
