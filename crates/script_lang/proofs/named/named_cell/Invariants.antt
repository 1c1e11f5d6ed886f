use Rattle.std.proofs.Common.{◌≡◌}
use Rattle.script_lang.proofs.ResolveRows.{found_from}
use Rattle.script_lang.proofs.named.named_cell.Given as goal

abbrev pub invariant-loop-r : goal.invariant-loop-r
invariant-loop-r l = found_from l.rows l.name l.n 0 ≡ found_from l.rows l.name l.n l.r
