-- The base and the fibre of a named product or circle bundle are named, and what is assembled has no loops.
use Rattle.spaces.specs.Spaces.{Space, table, sphere, product, suspension, kz1, bundle, loops, paths, kzm1, cyclic_bundle}
use Rattle.normal_forms.specs.Built.{IsBuilt}
use Rattle.oracle_iface.specs.KeyLaws.{IsNamed}
use Rattle.oracle_iface.proofs.Named.{product-parts, bundle-base, named-kz1}
use Rattle.twist_laws.specs.Assembled.{IsLoopless, IsAssembled}
use Rattle.twist_rules.specs.PartSpaces.{IsFibred, base_of, fibre_of}

pub base-named : (s : Space) → IsFibred s → IsNamed s → IsNamed (base_of s)
base-named (product a b) is u = (product-parts a b u).0
base-named (bundle t c) is u = bundle-base t c u
base-named (table t) is u = absurd is
base-named (sphere m) is u = absurd is
base-named (suspension a) is u = absurd is
base-named kz1 is u = absurd is
base-named (loops a) is u = absurd is
base-named (paths a) is u = absurd is
base-named (kzm1 m) is u = absurd is
base-named (cyclic_bundle t m c) is u = absurd is

pub fibre-named : (s : Space) → IsFibred s → IsNamed s → IsNamed (fibre_of s)
fibre-named (product a b) is u = (product-parts a b u).1
fibre-named (bundle t c) is u = named-kz1
fibre-named (table t) is u = absurd is
fibre-named (sphere m) is u = absurd is
fibre-named (suspension a) is u = absurd is
fibre-named kz1 is u = absurd is
fibre-named (loops a) is u = absurd is
fibre-named (paths a) is u = absurd is
fibre-named (kzm1 m) is u = absurd is
fibre-named (cyclic_bundle t m c) is u = absurd is

-- what is assembled has no loop and path spaces
pub assembled-loopless : (a : Space) → IsAssembled a → IsLoopless a
assembled-loopless (table t) u = tt
assembled-loopless (sphere m) u = tt
assembled-loopless (product a b) u = (assembled-loopless a u.0, assembled-loopless b u.1)
assembled-loopless (suspension a) u = assembled-loopless a u
assembled-loopless kz1 u = tt
assembled-loopless (bundle t c) u = tt
assembled-loopless (loops a) u = absurd u
assembled-loopless (paths a) u = absurd u
assembled-loopless (kzm1 m) u = absurd u
assembled-loopless (cyclic_bundle t m c) u = absurd u

-- and what is built is assembled
pub built-assembled : (a : Space) → IsBuilt a → IsAssembled a
built-assembled (table t) u = tt
built-assembled (sphere m) u = tt
built-assembled (product a b) u = (built-assembled a u.0, built-assembled b u.1)
built-assembled (suspension a) u = built-assembled a u
built-assembled kz1 u = tt
built-assembled (bundle t c) u = tt
built-assembled (loops a) u = absurd u
built-assembled (paths a) u = absurd u
built-assembled (kzm1 m) u = absurd u
built-assembled (cyclic_bundle t m c) u = absurd u
