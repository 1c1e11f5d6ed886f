use Rattle.oracle_iface.proofs.ValidPlaces.{sphere-key_dim, sphere-basis_key, sphere-cycles_key, sphere-small_key, sphere-big_key}
use Rattle.oracle_iface.proofs.places.sphere_places.Goals as goal

pub returns : goal.returns
returns c = record {
  dim = sphere-key_dim c.args.k.now;
  basis = sphere-basis_key c.args.k.now;
  cycles = sphere-cycles_key c.args.k.now;
  small = sphere-small_key c.args.k.now;
  big = sphere-big_key c.args.k.now;
}
