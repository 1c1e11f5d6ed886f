use Rattle.std.proofs.Common.{◌∙◌, ap, sym}
use Rattle.spaces.specs.Orders.{ordered, by_degree}
use Rattle.spaces.specs.SmallCells.{small_cmp}
use Rattle.values.specs.Asks.{Cell, value_with}
use Rattle.values.proofs.Chains.{value_with-on_chain}
use Rattle.term_lang.specs.Quote.{quote_cell}
use Rattle.oracle_iface.specs.Keys.{quote_chain, quote_small_chain}
use Rattle.oracle_iface.specs.SmallForms.{quote_small}
use Rattle.homology_rules.proofs.QuotedSums.{small-sum, big-sum}
use Rattle.homology_rules.proofs.typed.quoted_sum_laws.Goals as goal

pub returns : goal.returns
returns z = record {
  small_of_small = λ a p answers image t c same shown.
      small-sum a p (quote_small a) c image (λ y. value_with answers (t y)) same shown ∙ ap (quote_small_chain a) (sym (value_with-on_chain answers t (small_cmp a) p c));
  big_of_small = λ a p answers image t c cells same shown.
      big-sum a p (quote_small a) c image (λ y. value_with answers (t y)) cells same shown
      ∙ ap (quote_chain a) (sym (value_with-on_chain answers t (by_degree (ordered a).cmp) p c));
  small_of_big = λ a p answers image t c same shown.
      small-sum a p (λ (x : Cell a). quote_cell a x.0 x.1) c image (λ x. value_with answers (t x)) same shown
      ∙ ap (quote_small_chain a) (sym (value_with-on_chain answers t (small_cmp a) p c));
  big_of_big = λ a p answers image t c cells same shown.
      big-sum a p (λ (x : Cell a). quote_cell a x.0 x.1) c image (λ x. value_with answers (t x)) cells same shown
      ∙ ap (quote_chain a) (sym (value_with-on_chain answers t (by_degree (ordered a).cmp) p c));
}
