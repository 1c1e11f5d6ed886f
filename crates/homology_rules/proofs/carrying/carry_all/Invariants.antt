use Rattle.std.proofs.Common.{◌≡◌, None, map, take, drop}
use Rattle.elim_fp.specs.Rows.{vectors_of}
use Rattle.oracle_iface.specs.Forcing.{Asked}
use Rattle.homology_rules.specs.Asking.{first_refusal, MayForceEach}
use Rattle.homology_rules.specs.Vectors.{carried_of, keys_of_vectors}
use Rattle.homology_rules.proofs.carrying.carry_all.Given as goal

abbrev pub invariant-loop-vector : goal.invariant-loop-vector
invariant-loop-vector g l = record {
  may : MayForceEach g.F.Forcer.may_force g.F.Forcer.forces l.forcer (keys_of_vectors l.key l.cells (vectors_of (drop l.vector-index l.vectors)));
  asked : Asked g.F.Forcer.forces l.initial.forcer (keys_of_vectors l.key l.cells (vectors_of (take l.vector-index l.vectors))) l.forcer;
  chains_are : l.chains ≡ map (λ v. carried_of l.key l.cells v) (vectors_of (take l.vector-index l.vectors));
  none_refused : first_refusal (keys_of_vectors l.key l.cells (vectors_of (take l.vector-index l.vectors))) ≡ None;
}
