use Rattle.fp_field.specs.Field.{number}
use Rattle.fp_field.proofs.Primes.{number_pos}
use Rattle.spaces.specs.Tables.{sphere_rows}
use Rattle.spaces.proofs.SphereHomology.{sphere_homology_list}
use Rattle.spaces.proofs.SphereTable.{sphere_faces}
use Rattle.spaces.proofs.TableLaws.{table_set_laws}
use Rattle.spaces.proofs.spheres.sphere_homology.Goals as goal

pub returns : goal.returns
returns c =
    sphere_homology_list c.args.m c.requires (table_set_laws (sphere_rows c.args.m) (sphere_faces c.args.m c.requires)) (number c.args.p) (number_pos c.args.p)
    c.args.n
