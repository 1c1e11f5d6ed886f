-- Which of the sixteen shards a key belongs to.
--
-- The places of its operation in the order of `Op`, the degree of its place and its prime together, modulo 16.
--
--   SmallD at a small cell of degree 1 over F_3 belongs to shard 1 + 1 + 3, and Cycles in degree 20 over F_7 to shard 0
use Rattle.std.specs.Prelude.{ℕ, ◌+◌, ◌%◌}
use Rattle.fp_field.specs.Field.{number}
use Rattle.cells.specs.Dim.{dim_of}
use Rattle.cells.specs.Small.{degree_of_small}
use Rattle.oracle_iface.specs.declared.keys.Op.{Op}
use Rattle.oracle_iface.specs.declared.keys.Op.TheVariants.{Basis, SmallD, F, G, H, Cycles}
use Rattle.oracle_iface.specs.declared.keys.Place.{Place}
use Rattle.oracle_iface.specs.declared.keys.Place.TheVariants.{Degree, Small, Big}
use Rattle.oracle_iface.specs.declared.keys.Key.{Key}

abbrev pub op_number : Op → ℕ
op_number Basis = 0
op_number SmallD = 1
op_number F = 2
op_number G = 3
op_number H = 4
op_number Cycles = 5

abbrev pub place_degree : Place → ℕ
place_degree (Degree n) = n
place_degree (Small y) = degree_of_small y
place_degree (Big x) = dim_of x

abbrev pub shard_number : Key → ℕ
shard_number k = (op_number k.op + place_degree k.place + number k.prime) % 16
