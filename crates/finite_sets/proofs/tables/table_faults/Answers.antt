use Rattle.finite_sets.proofs.TableFaults.{table_from, faultless_from}
use Rattle.finite_sets.proofs.tables.table_faults.Goals as goal

pub returns : goal.returns
returns c = λ rows. (faultless_from rows, table_from rows)
