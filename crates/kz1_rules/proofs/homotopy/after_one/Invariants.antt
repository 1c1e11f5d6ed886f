use Rattle.std.proofs.Common.{◌≡◌, ◌∷◌, take, pos}
use Rattle.kz1_rules.proofs.homotopy.after_one.Given as goal

abbrev pub invariant-loop-k : goal.invariant-loop-k
invariant-loop-k l = l.list ≡ pos 1 ∷ (l.n ∷ take l.k-index l.rest)
