use Rattle.std.proofs.Common.{◌<◌, Some, subst, sym}
use Rattle.std.proofs.Math.Nat.{mod-lt}
use Rattle.std.proofs.lemmas.List.Elements.{All-pop, All-push, All-same}
use Rattle.fp_field.specs.Field.{number}
use Rattle.fp_field.proofs.Primes.{number_pos}
use Rattle.chain_core.proofs.MapLemmas.{moved}
use Rattle.chain_core.proofs.maps.push_scaled.Goals as goal

pub loop-key-preserved : goal.loop-key-preserved
loop-key-preserved g c = record {
  left = (All-pop (λ t. t.1.value < number c.prime-p.result) c.loop-key.left.items c.pop.new.self.items (Some (c.in-Some.key, c.in-Some.number)) c.in-Some.ensures.items c.loop-key.invariant.left).0;
  pushed = All-same (λ t. t.1.value < number c.prime-p.result) _ _ c.in_ok-push.ensures.items
      (All-push (λ t. t.1.value < number c.prime-p.result) c.loop-key.terms.items (c.in-Some.key, c.mul.result) c.loop-key.invariant.pushed
      (subst (λ v. v < number c.prime-p.result) (sym c.mul.ensures) (mod-lt _ (number_pos c.prime-p.result))));
  sum = λ w.
      moved (number c.prime-p.result) c.args.c.value w c.loop-key.terms.items c.push.new.self.items c.loop-key.left.items c.pop.new.self.items c.in-Some.key c.in-Some.number c.mul.result _
      c.in-Some.ensures.items c.in_ok-push.ensures.items c.mul.ensures (c.loop-key.invariant.sum w);
}
