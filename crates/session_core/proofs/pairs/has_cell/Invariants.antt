use Rattle.std.proofs.Common.{◌≡◌, drop}
use Rattle.std.specs.List.{list_any}
use Rattle.term_lang.specs.Rows.{rows_of}
use Rattle.session_core.specs.Bundles.{is_cell}
use Rattle.session_core.proofs.pairs.has_cell.Given as goal

abbrev pub invariant-loop-row : goal.invariant-loop-row
invariant-loop-row l = list_any (is_cell l.name) (rows_of (drop l.row-index l.rows)) ≡ list_any (is_cell l.name) (rows_of l.rows)
