use Rattle.std.proofs.Common.{◌≡◌, map}
use Rattle.session_core.proofs.session_names.SessionNames.list.Given as goal

abbrev pub invariant-loop-name : goal.invariant-loop-name
invariant-loop-name l = l.names ≡ map (λ x. x.now) l.yielded
