-- The base, the fibre and the cocycle's values of the space of a key, as an evaluation that asks for the maps of the parts holds them.
--
--   of the bundle of a cocycle on a table t, over F_3: `table t` and `kz1`, each with the prime 3, and the values of the cocycle
use Rattle.std.specs.Prelude.{◌≡◌, List, Option, Some, None, ℤ}
use Rattle.spaces.specs.Spaces.{Space, table, sphere, product, suspension, kz1, bundle, loops, paths, kzm1, cyclic_bundle}
use Rattle.term_lang.specs.SpaceOf.{space_of}
use Rattle.oracle_iface.specs.declared.keys.Key.{Key}
use Rattle.fibred_asks.specs.declared.maps.Maps.{Maps}
use Rattle.fibred_asks.specs.Asked.{prime_of, base_of as base_held, fibre_of as fibre_held, values_of}
use Rattle.twist_rules.specs.PartSpaces.{base_of, fibre_of}

-- the values of the cocycle, which a bundle alone has
abbrev pub twist_of : Space → Option (List ℤ)
twist_of (table t) = None
twist_of (sphere m) = None
twist_of (product a b) = None
twist_of (suspension a) = None
twist_of kz1 = None
twist_of (bundle t c) = Some c
twist_of (loops a) = None
twist_of (paths a) = None
twist_of (kzm1 m) = None
twist_of (cyclic_bundle t m c) = None

-- they are those of the key's space, over its prime
pub record AreMapsOf (m : Maps) (k : Key) : Type 0 where
  pub prime : prime_of m ≡ k.prime
  pub base : base_held m ≡ base_of (space_of k.term)
  pub fibre : fibre_held m ≡ fibre_of (space_of k.term)
  pub values : values_of m ≡ twist_of (space_of k.term)
