use Rattle.std.proofs.Common.{◌≡◌, ◌∷◌, sym, ◌∙◌, ap, subst}
use Rattle.std.proofs.lemmas.List.{take_all}
use Rattle.fp_field.specs.Field.{number}
use Rattle.fp_field.specs.Normal.{normal}
use Rattle.fp_field.proofs.Primes.{number_pos}
use Rattle.chain_core.specs.Formal.{numbers}
use Rattle.cells.specs.Laws.{cell_total}
use Rattle.cells.specs.Order.{cell_cmp}
use Rattle.cells.specs.declared.cells.Cell.TheVariants.{Up}
use Rattle.cells.proofs.OneKey.{one_cell}
use Rattle.susp_rules.specs.Bodies.{cells_up}
use Rattle.susp_rules.proofs.UpOrders.{up-normal}
use Rattle.susp_rules.proofs.UpSteps.{term-more}
use Rattle.susp_rules.proofs.ups.up_big.Goals as goal

pub loop-x-preserved : goal.loop-x-preserved
loop-x-preserved c = record {
  prime = c.add_term.ensures.prime ∙ c.loop-x.invariant.prime;
  terms = term-more cell_cmp cell_total one_cell (number c.args.chain.now.prime) (number_pos c.args.chain.now.prime) (λ y. Up y)
      c.terms-x-items.result.now c.loop-x.x-index c.loop-x-item.result c.in_ok-new.field-0 c.loop-x.raised.terms c.add_term.new.self.terms c.loop-x-test.true c.loop-x-item.is
      (c.in_ok-new.ensures ∙ c.in_ok-copy_cell.ensures) c.loop-x.invariant.terms
      (c.in_ok-add_term.ensures.sum ∙ ap (λ q. normal cell_cmp (number q) ((Up c.in_ok-new.field-0, c.loop-x-item.result.1.value) ∷ c.loop-x.raised.terms)) c.loop-x.invariant.prime);
}

pub returns : goal.returns
returns c = λ i. record {
  prime = c.loop-x.invariant.prime i;
  terms = (c.loop-x.invariant.terms
      ∙ ap (λ ts. normal cell_cmp (number c.args.chain.now.prime) (cells_up (numbers ts))) (take_all c.loop-x.x-index c.terms-x-items.result.now c.loop-x-test.false)
      ∙ ap (λ ts. normal cell_cmp (number c.args.chain.now.prime) (cells_up ts)) c.terms-x-items.ensures.terms
      ∙ up-normal (number c.args.chain.now.prime) c.args.chain.now.terms c.terms-x-items.ensures.normal) i;
}
