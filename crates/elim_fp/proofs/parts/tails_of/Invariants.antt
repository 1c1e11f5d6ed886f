use Rattle.std.proofs.Common.{◌≡◌, All, take}
use Rattle.elim_fp.specs.Rows.{vectors_of, tails}
use Rattle.elim_fp.proofs.parts.tails_of.Given as goal

abbrev pub invariant-loop-row : goal.invariant-loop-row
invariant-loop-row l = record {
  rows : vectors_of l.tails.items ≡ tails l.from (take l.row-index (vectors_of l.rows));
  primes : All (λ r. r.prime ≡ l.fn.p) l.tails.items;
}
