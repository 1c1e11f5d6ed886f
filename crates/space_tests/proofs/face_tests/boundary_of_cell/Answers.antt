use Rattle.cells.proofs.OneKey.{one_cell}
use Rattle.space_tests.proofs.face_tests.boundary_of_cell.Goals as goal

pub from_terms-requires-clause-one_key : goal.from_terms-requires-clause-one_key
from_terms-requires-clause-one_key c = one_cell
