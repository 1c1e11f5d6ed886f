use Rattle.std.proofs.Common.{◌<◌, All, drop}
use Rattle.fp_field.specs.Chains.{Each}
use Rattle.fp_field.specs.Field.{number}
use Rattle.chain_core.specs.Formal.{numbers}
use Rattle.fibred_asks.specs.Asked.{IsTensorIn}
use Rattle.fibred_asks.proofs.AlongSmalls.{SmallState}
use Rattle.fibred_asks.proofs.smalls.on_smalls.Given as goal

abbrev pub invariant-loop-x : goal.invariant-loop-x
invariant-loop-x g l = record {
  elements : All (λ t. t.1.value < number l.m.base.now.prime) l.terms.items;
  kinds : Each (IsTensorIn l.m l.most l.n) (numbers (drop l.x-index l.x-items));
  state : SmallState l.m g.F.Forcer.forces l.c.terms (numbers (drop l.x-index l.x-items)) l.initial.forcer l.forcer (numbers l.terms.items);
}
