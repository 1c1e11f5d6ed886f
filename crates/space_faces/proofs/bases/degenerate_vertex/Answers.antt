use Rattle.space_faces.proofs.SphereFaces.{all_bits}
use Rattle.space_faces.proofs.bases.degenerate_vertex.Goals as goal

pub returns-clause-mask : goal.returns-clause-mask
returns-clause-mask c = all_bits c.args.n c.requires
