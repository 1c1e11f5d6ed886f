use Rattle.spaces.proofs.TableLaws.{table_set_laws}
use Rattle.spaces.proofs.laws.table_laws.Goals as goal

pub returns : goal.returns
returns c = λ t is. table_set_laws t is.faces
