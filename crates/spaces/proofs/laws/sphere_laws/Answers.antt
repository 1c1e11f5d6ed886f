use Rattle.spaces.specs.Tables.{sphere_rows}
use Rattle.spaces.proofs.SphereTable.{sphere_faces}
use Rattle.spaces.proofs.TableLaws.{table_set_laws}
use Rattle.spaces.proofs.laws.sphere_laws.Goals as goal

pub returns : goal.returns
returns c = λ m p. table_set_laws (sphere_rows m) (sphere_faces m p)
