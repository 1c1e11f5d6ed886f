use Rattle.oracle_iface.proofs.ValidPlaces.{key-allowed, basis-degree, cycles-degree}
use Rattle.oracle_iface.proofs.places.degree_places.Goals as goal

pub returns : goal.returns
returns c = record { allowed = key-allowed c.args.k.now; basis = basis-degree c.args.k.now; cycles = cycles-degree c.args.k.now }
