use Rattle.std.proofs.Common.{◌≡◌, suc, ◌+◌, ◌*◌, ◌<◌, ◌≤◌, All}
use Rattle.fp_field.specs.Field.{number}
use Rattle.fp_field.specs.Chains.{Each}
use Rattle.chain_core.specs.Formal.{numbers}
use Rattle.twist_chains.specs.Fibred.{growth}
use Rattle.fibred_asks.specs.Reached.{limited_reach}
use Rattle.fibred_asks.specs.Seconds.{series_room}
use Rattle.fibred_asks.specs.Asked.{prime_of, values_of, IsTensorIn}
use Rattle.fibred_asks.specs.Steps.{top_of}
use Rattle.fibred_asks.proofs.SeriesRounds.{Left}
use Rattle.fibred_asks.proofs.series.series_by.Given as goal

abbrev pub invariant-loop-left : goal.invariant-loop-left
invariant-loop-left g l = record {
  prime : l.term.prime ≡ prime_of l.m;
  elements : All (λ t. t.1.value < number (prime_of l.m)) l.sum.items;
  stands : Each (IsTensorIn l.m (series_room (values_of l.m) (top_of l.first l.n) l.most) l.n) (numbers l.sum.items);
  next : 0 < l.left → Each (IsTensorIn l.m l.reach l.n) l.term.terms;
  far : limited_reach ≤ l.reach;
  few : l.left ≤ suc l.n;
  fits : l.reach + l.left * ((top_of l.first l.n + 2) * growth (values_of l.m)) ≤ series_room (values_of l.m) (top_of l.first l.n) l.most;
  stage : Left l.m l.first l.n g.F.Forcer.forces l.c.terms (numbers l.sum.items) l.left l.term.terms l.initial.forcer l.forcer;
}

abbrev pub decreases-loop-left : goal.decreases-loop-left
decreases-loop-left g l = l.left
