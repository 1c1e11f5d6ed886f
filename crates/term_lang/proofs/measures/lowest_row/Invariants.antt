use Rattle.std.proofs.Common.{◌≡◌, take}
use Rattle.spaces.specs.Counts.{table_low}
use Rattle.term_lang.specs.Rows.{rows_of}
use Rattle.term_lang.proofs.measures.lowest_row.Given as goal

abbrev pub invariant-loop-row : goal.invariant-loop-row
invariant-loop-row l = l.low ≡ table_low (rows_of (take l.row-index l.row-items))
