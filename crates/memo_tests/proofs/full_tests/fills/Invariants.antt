use Rattle.memo_shared.specs.Shared.{IsOf, IsSame}
use Rattle.memo_tests.proofs.full_tests.fills.Given as goal

abbrev pub invariant-loop-i : goal.invariant-loop-i
invariant-loop-i g l = IsOf l.memo l.pass × IsSame l.initial.pass l.pass
