use Rattle.std.proofs.Common.{◌≡◌, ◌∷◌, sym, ◌∙◌, ap, subst}
use Rattle.std.proofs.lemmas.List.{take_all}
use Rattle.fp_field.specs.Field.{number}
use Rattle.fp_field.specs.Normal.{normal}
use Rattle.fp_field.proofs.Primes.{number_pos}
use Rattle.chain_core.specs.Formal.{numbers}
use Rattle.cells.specs.Laws.{small_total}
use Rattle.cells.specs.Small.{small_cmp}
use Rattle.cells.specs.declared.cells.SmallCell.TheVariants.{Up}
use Rattle.cells.proofs.OneSmall.{one_small}
use Rattle.susp_rules.specs.Bodies.{smalls_up}
use Rattle.susp_rules.proofs.UpOrders.{small_up-normal}
use Rattle.susp_rules.proofs.UpSteps.{term-more}
use Rattle.susp_rules.proofs.ups.up_small.Goals as goal

pub loop-y-preserved : goal.loop-y-preserved
loop-y-preserved c = record {
  prime = c.add_term.ensures.prime ∙ c.loop-y.invariant.prime;
  terms = term-more small_cmp small_total one_small (number c.args.chain.now.prime) (number_pos c.args.chain.now.prime) (λ y. Up y)
      c.terms-y-items.result.now c.loop-y.y-index c.loop-y-item.result c.in_ok-new.field-0 c.loop-y.raised.terms c.add_term.new.self.terms c.loop-y-test.true c.loop-y-item.is
      (c.in_ok-new.ensures ∙ c.in_ok-copy_small.ensures) c.loop-y.invariant.terms
      (c.in_ok-add_term.ensures.sum ∙ ap (λ q. normal small_cmp (number q) ((Up c.in_ok-new.field-0, c.loop-y-item.result.1.value) ∷ c.loop-y.raised.terms)) c.loop-y.invariant.prime);
}

pub returns : goal.returns
returns c = λ i. record {
  prime = c.loop-y.invariant.prime i;
  terms = (c.loop-y.invariant.terms
      ∙ ap (λ ts. normal small_cmp (number c.args.chain.now.prime) (smalls_up (numbers ts))) (take_all c.loop-y.y-index c.terms-y-items.result.now c.loop-y-test.false)
      ∙ ap (λ ts. normal small_cmp (number c.args.chain.now.prime) (smalls_up ts)) c.terms-y-items.ensures.terms
      ∙ small_up-normal (number c.args.chain.now.prime) c.args.chain.now.terms c.terms-y-items.ensures.normal) i;
}
