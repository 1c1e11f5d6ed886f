use Rattle.std.proofs.Common.{◌≡◌, suc, ◌-◌, ◌++◌}
use Rattle.values.specs.Rules.{numbers}
use Rattle.twist_rules.specs.PairBases.{basis_keys}
use Rattle.twist_rules.proofs.bases.basis_keys.Given as goal

abbrev pub invariant-loop-i : goal.invariant-loop-i
invariant-loop-i l =
    l.keys.items ++ basis_keys l.p l.parts.base l.parts.fibre l.n (numbers l.i (suc l.n - l.i)) ≡ basis_keys l.p l.parts.base l.parts.fibre l.n (numbers 0 (suc l.n))
