use Rattle.std.proofs.Common.{◌≡◌, ◌≤◌, ◌++◌, length, drop}
use Rattle.elim_fp.specs.Matching.{unmatched, row_lead}
use Rattle.elim_fp.proofs.complements.unmatched_rows.Given as goal

abbrev pub invariant-loop-row : goal.invariant-loop-row
invariant-loop-row l = record {
  within : l.next ≤ length l.others;
  rest : l.left.items ++ unmatched row_lead (drop l.row-index l.rows) (drop l.next l.others) ≡ unmatched row_lead l.rows l.others;
}
