use Rattle.cells.proofs.OneKey.{one_cell}
use Rattle.session_core.proofs.filling.sum_of_both.Goals as goal

pub from_terms-requires-clause-one_key : goal.from_terms-requires-clause-one_key
from_terms-requires-clause-one_key c = one_cell
