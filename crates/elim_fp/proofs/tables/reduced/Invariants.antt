use Rattle.std.proofs.Common.{length}
use Rattle.elim_fp.specs.Rows.{IsRow}
use Rattle.elim_fp.proofs.TableSums.{Walk}
use Rattle.elim_fp.proofs.tables.reduced.Given as goal

abbrev pub invariant-loop-at : goal.invariant-loop-at
invariant-loop-at l = record {
  is_row : IsRow l.fn.p (length l.table) l.rest;
  values : Walk l.fn.p (length l.table) l.table l.place l.at-items l.at-index l.rest.values;
}
