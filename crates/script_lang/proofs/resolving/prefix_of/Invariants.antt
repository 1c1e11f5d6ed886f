use Rattle.script_lang.proofs.ResolvePrefixes.{Reading}
use Rattle.script_lang.proofs.resolving.prefix_of.Given as goal

abbrev pub invariant-loop-j : goal.invariant-loop-j
invariant-loop-j l = Reading l.fn.n l.fn.indices l.mask l.bound l.j-index
