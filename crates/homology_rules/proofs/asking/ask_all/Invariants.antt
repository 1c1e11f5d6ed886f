use Rattle.std.proofs.Common.{◌≡◌, None, map, take, drop}
use Rattle.oracle_iface.specs.Forcing.{Asked}
use Rattle.homology_rules.specs.Asking.{first_refusal, MayForceEach, EachAnswered}
use Rattle.homology_rules.proofs.asking.ask_all.Given as goal

abbrev pub invariant-loop-key : goal.invariant-loop-key
invariant-loop-key g l = record {
  may : MayForceEach g.F.Forcer.may_force g.F.Forcer.forces l.forcer (drop l.key-index l.keys);
  asked : Asked g.F.Forcer.forces l.initial.forcer (take l.key-index l.keys) l.forcer;
  answered : EachAnswered g.F.Forcer.forces l.initial.forcer (take l.key-index l.keys) l.forcer;
  keys_are : map (λ v. v.key) l.values.items ≡ take l.key-index l.keys;
  none_refused : first_refusal (take l.key-index l.keys) ≡ None;
}
