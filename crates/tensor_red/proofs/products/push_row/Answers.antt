use Rattle.std.proofs.Common.{◌<◌, sym, subst, arith}
use Rattle.std.proofs.Math.Nat.{mod-lt}
use Rattle.std.proofs.lemmas.List.Elements.{All-push, All-same}
use Rattle.fp_field.specs.Field.{number}
use Rattle.fp_field.proofs.Primes.{number_pos}
use Rattle.tensor_red.specs.Tensors.{tensors}
use Rattle.tensor_red.proofs.RowSteps.{row_step, row_done}
use Rattle.tensor_red.proofs.products.push_row.Goals as goal

pub loop-i-preserved : goal.loop-i-preserved
loop-i-preserved g c = record {
  bound = omega (arith, c.loop-i.invariant.bound);
  pushed = All-same (λ t. t.1.value < number c.args.p) _ _ c.in_ok-push.ensures.items
      (All-push (λ t. t.1.value < number c.args.p) c.loop-i.terms.items (record { left = c.in_ok-clone.field-0; right = c.in_ok-clone-2.field-0 }, c.mul.result) c.loop-i.invariant.pushed
      (subst (λ v. v < number c.args.p) (sym c.mul.ensures) (mod-lt _ (number_pos c.args.p))));
  sum = λ w.
      row_step tensors (number c.args.p) w c.args.key.now c.args.factor.value c.loop-i.i c.loop-i.terms.items c.push.new.self.items
      (record { left = c.in_ok-clone.field-0; right = c.in_ok-clone-2.field-0 }) c.mul.result c.args.right.now.terms (c.term.result.0.now, c.term.result.1.value) _
      (omega (arith, c.loop-i-test.true)) c.in_ok-push.ensures.items c.term.ensures.value
      (λ k. record { left = c.requires.left_clones _ _ c.in_ok-clone.ensures.cases k; right = c.requires.right_clones _ _ c.in_ok-clone-2.ensures.cases k })
      c.mul.ensures (c.loop-i.invariant.sum w);
}

pub returns-clause-sum : goal.returns-clause-sum
returns-clause-sum g c = λ w.
    row_done tensors (number c.args.p) w c.args.key.now c.args.factor.value c.loop-i.i c.args.terms.now.items c.loop-i.terms.items c.args.right.now.terms c.len-i.result
    (omega (arith, c.loop-i-test.false)) c.len-i.ensures (rw c.in_ok-reserve.ensures.items at (c.loop-i.invariant.sum w))
