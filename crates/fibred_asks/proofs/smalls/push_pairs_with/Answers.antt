use Rattle.std.proofs.Common.{◌<◌, ◌+◌, ◌*◌, ◌∙◌, sym, ap, subst}
use Rattle.std.proofs.Math.Nat.{mod-lt}
use Rattle.std.proofs.lemmas.List.{take_all}
use Rattle.std.proofs.lemmas.List.Elements.{All-push, All-same}
use Rattle.fp_field.specs.Chains.{weigh}
use Rattle.fp_field.specs.Field.{number, SameMod}
use Rattle.fp_field.proofs.Primes.{number_pos}
use Rattle.cells.specs.declared.cells.SmallCell.TheVariants.{Pair}
use Rattle.chain_core.specs.Formal.{numbers}
use Rattle.fibred_asks.proofs.PairSums.{pair-more}
use Rattle.fibred_asks.proofs.smalls.push_pairs_with.Goals as goal

pub loop-z-preserved : goal.loop-z-preserved
loop-z-preserved c = record {
  elements = All-same (λ t. t.1.value < number c.prime-p.result) _ _ c.in_ok-push.ensures.items
      (All-push (λ t. t.1.value < number c.prime-p.result) c.loop-z.terms.items (Pair c.in_ok-left.left c.in_ok-right.right, c.mul.result) c.loop-z.invariant.elements
      (subst (λ v. v < number c.prime-p.result) (sym c.mul.ensures) (mod-lt _ (number_pos c.prime-p.result))));
  total = λ w.
      pair-more w (number c.prime-p.result) _ c.args.c.value c.loop-z.terms.items c.push.new.self.items c.terms-z-items.result.now c.loop-z.z-index c.loop-z-item.result
      c.loop-z-test.true c.loop-z-item.is c.args.y.now c.in_ok-left.left c.in_ok-right.right (c.in_ok-left.ensures ∙ c.in_ok-copy_small.ensures)
      (c.in_ok-right.ensures ∙ c.in_ok-copy_small-2.ensures) c.mul.result c.in_ok-push.ensures.items c.mul.ensures (c.loop-z.invariant.total w);
}

pub returns-clause-sum : goal.returns-clause-sum
returns-clause-sum c = λ w.
    subst (λ q. SameMod (number q) (weigh w (numbers c.loop-z.terms.items)) (weigh w (numbers c.args.terms.now.items) + c.args.c.value * weigh (λ z. w (Pair c.args.y.now z)) c.args.chain.now.terms))
    c.prime-p.ensures
    (subst (λ d. SameMod (number c.prime-p.result) (weigh w (numbers c.loop-z.terms.items)) (weigh w (numbers c.args.terms.now.items) + c.args.c.value * weigh (λ z. w (Pair c.args.y.now z)) d))
    (ap numbers (take_all c.loop-z.z-index c.terms-z-items.result.now c.loop-z-test.false) ∙ c.terms-z-items.ensures.terms) (c.loop-z.invariant.total w))
