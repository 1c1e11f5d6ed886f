use Rattle.std.proofs.Common.{drop}
use Rattle.script_lang.proofs.Values.{SoFar}
use Rattle.script_lang.proofs.bytes.value.Given as goal

abbrev pub invariant-loop-b : goal.invariant-loop-b
invariant-loop-b l = SoFar l.digits l.n (drop l.b-index l.digits)
