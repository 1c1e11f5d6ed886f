use Rattle.std.proofs.Common.{◌≡◌, length}
use Rattle.elim_fp.specs.Rows.{vectors_of}
use Rattle.session_core.proofs.LessSteps.{Less}
use Rattle.session_core.proofs.without.less_combination.Given as goal

abbrev pub invariant-loop-i : goal.invariant-loop-i
invariant-loop-i l = record {
  prime : l.rest.prime ≡ l.initial.rest.prime;
  wide : length l.rest.values ≡ length l.initial.rest.values;
  values : Less l.initial.rest.prime (length l.initial.rest.values) l.initial.rest.values l.numbers.values (vectors_of l.rows) l.i l.rest.values;
}
