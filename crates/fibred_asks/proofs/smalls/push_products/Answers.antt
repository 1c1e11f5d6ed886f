use Rattle.std.proofs.Common.{◌<◌, ◌+◌, ◌*◌, ◌∙◌, get_or, sym, subst}
use Rattle.std.specs.List.{All}
use Rattle.fp_field.specs.Chains.{weigh}
use Rattle.fp_field.specs.Field.{number, SameMod}
use Rattle.fp_field.specs.declared.element.Fp.{Fp}
use Rattle.cells.specs.declared.cells.SmallCell.{SmallCell}
use Rattle.cells.specs.declared.cells.SmallCell.TheVariants.{Pair}
use Rattle.chain_core.specs.Formal.{numbers}
use Rattle.fibred_asks.proofs.PairSums.{share-more}
use Rattle.fibred_asks.proofs.smalls.push_products.Goals as goal

pub mul-requires-clause-b_in : goal.mul-requires-clause-b_in
mul-requires-clause-b_in c =
    subst (λ (t : SmallCell × Fp). t.1.value < number c.prime-p.result) (sym c.loop-y-item.is)
    (subst (λ q. (get_or c.terms-y-items.result.now c.loop-y.y-index c.loop-y-item.result).1.value < number q) (sym c.prime-p.ensures)
    (c.terms-y-items.ensures.elements c.loop-y.y-index c.loop-y-item.result c.loop-y-test.true))

pub loop-y-preserved : goal.loop-y-preserved
loop-y-preserved c = record {
  elements = subst (λ q. All (λ t. t.1.value < number q) c.push_pairs_with.new.terms.items) (c.requires.prime ∙ sym c.prime-p.ensures) c.in_ok-push_pairs_with.ensures.elements;
  total = λ w.
      share-more (λ y. weigh (λ z. w (Pair y z)) c.args.right.now.terms) c.terms-y-items.result.now c.loop-y.y-index c.loop-y-item.result c.loop-y-test.true c.loop-y-item.is
      (number c.prime-p.result) _ c.args.c.value c.mul.result.value (weigh w (numbers c.loop-y.terms.items)) (weigh w (numbers c.push_pairs_with.new.terms.items)) c.mul.ensures
      (subst (λ q. SameMod (number q) (weigh w (numbers c.push_pairs_with.new.terms.items)) (weigh w (numbers c.loop-y.terms.items) + c.mul.result.value * weigh (λ z. w (Pair c.loop-y-item.result.0 z)) c.args.right.now.terms))
      (c.requires.prime ∙ sym c.prime-p.ensures) (c.in_ok-push_pairs_with.ensures.sum w)) (c.loop-y.invariant.total w);
}
