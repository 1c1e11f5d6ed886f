use Rattle.std.proofs.Common.{◌≡◌, ◌++◌, drop}
use Rattle.term_lang.specs.Rows.{rows_of}
use Rattle.session_core.specs.Bundles.{values_on}
use Rattle.session_core.proofs.pairs.values_on.Given as goal

abbrev pub invariant-loop-row : goal.invariant-loop-row
invariant-loop-row l = l.values ++ values_on l.pairs (rows_of (drop l.row-index l.rows)) ≡ values_on l.pairs (rows_of l.rows)
