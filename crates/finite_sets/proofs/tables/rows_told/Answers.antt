use Rattle.finite_sets.proofs.RowsTold.{rows_told}
use Rattle.finite_sets.proofs.tables.rows_told.Goals as goal

pub returns : goal.returns
returns c = rows_told
