use Rattle.oracle_iface.proofs.ValidPlaces.{table-key_table, table-basis_key, table-cycles_key, table-small_key, table-big_key}
use Rattle.oracle_iface.proofs.places.table_places.Goals as goal

pub returns : goal.returns
returns c = record {
  table = table-key_table c.args.k.now;
  basis = table-basis_key c.args.k.now;
  cycles = table-cycles_key c.args.k.now;
  small = table-small_key c.args.k.now;
  big = table-big_key c.args.k.now;
}
