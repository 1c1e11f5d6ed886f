use Rattle.std.proofs.Common.{◌≡◌, None}
use Rattle.term_lang.specs.Rows.{rows_of}
use Rattle.session_core.specs.Bundles.{first_fault, pair_fault}
use Rattle.session_core.proofs.pairs.pairs_fault.Given as goal

abbrev pub invariant-loop-k : goal.invariant-loop-k
invariant-loop-k l = first_fault (pair_fault (rows_of l.rows) l.pairs) l.k ≡ None
