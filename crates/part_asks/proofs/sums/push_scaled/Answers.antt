use Rattle.std.proofs.Common.{◌<◌, sym, subst}
use Rattle.std.proofs.Math.Nat.{mod-lt}
use Rattle.std.proofs.lemmas.List.Elements.{All-push, All-same}
use Rattle.fp_field.specs.Field.{number}
use Rattle.fp_field.proofs.Primes.{number_pos}
use Rattle.homology_rules.proofs.SumSteps.{push_more}
use Rattle.part_asks.proofs.sums.push_scaled.Goals as goal

pub mul-requires-clause-a_in : goal.mul-requires-clause-a_in
mul-requires-clause-a_in g c = subst (λ q. c.args.c.value < number q) (sym c.prime-p.ensures) c.requires.element

pub loop-key-preserved : goal.loop-key-preserved
loop-key-preserved g c = record {
  elements = All-same (λ t. t.1.value < number c.prime-p.result) _ _ c.in_ok-push.ensures.items
      (All-push (λ t. t.1.value < number c.prime-p.result) c.loop-key.sum.items (c.in_ok-clone.field-0, c.mul.result) c.loop-key.invariant.elements
      (subst (λ v. v < number c.prime-p.result) (sym c.mul.ensures) (mod-lt _ (number_pos c.prime-p.result))));
  total = λ w.
      push_more w (number c.prime-p.result) _ c.args.c.value c.loop-key.sum.items c.push.new.self.items c.terms-key-items.result.now c.loop-key.key-index c.loop-key-item.result
      c.in_ok-clone.field-0 c.mul.result c.loop-key-test.true c.loop-key-item.is c.in_ok-push.ensures.items (c.requires.clones _ _ c.in_ok-clone.ensures.cases) c.mul.ensures (c.loop-key.invariant.total w);
}
