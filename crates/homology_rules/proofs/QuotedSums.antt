-- Sums of the images of the cells of a chain, in normal form, over cells and over their quotes.
use Rattle.std.proofs.Common.{◌≡◌, ℕ, ◌∙◌, ap}
use Rattle.fp_field.specs.Chains.{Terms, Each, extend}
use Rattle.fp_field.specs.Normal.{normal}
use Rattle.spaces.specs.Spaces.{Space}
use Rattle.spaces.specs.Orders.{ordered, by_degree}
use Rattle.spaces.specs.SmallCells.{Small, small_cmp}
use Rattle.values.specs.Asks.{Cell}
use Rattle.cells.specs.declared.cells.Cell.{Cell as CodeCell}
use Rattle.cells.specs.declared.cells.SmallCell.{SmallCell}
use Rattle.cells.specs.Order.{cell_cmp}
use Rattle.cells.specs.Small.{small_cmp as code_cmp}
use Rattle.term_lang.specs.Quote.{quote_cell}
use Rattle.oracle_iface.specs.Keys.{quote_chain, quote_small_chain}
use Rattle.oracle_iface.specs.SmallForms.{quote_small}
use Rattle.oracle_iface.specs.KeyLaws.{HasCells, IsShown}
use Rattle.oracle_iface.proofs.CarriedChains.{carried_terms}
use Rattle.oracle_iface.proofs.CellOrders.{chain-cells}
use Rattle.homology_rules.specs.Shown.{IsSmallShown}
use Rattle.homology_rules.proofs.Quoted.{carried-extend, each-extend}
use Rattle.homology_rules.proofs.QuotedVectors.{small-chain}

module _ (a : Space) (p : ℕ) {K L : Type 0} (q : K → L) (c : Terms K) where
  -- with images in the small complex
  pub small-sum : (image : L → Terms SmallCell) (typed : K → Terms (Small a)) → Each (λ x. image (q x) ≡ quote_small_chain a (typed x)) c
      → Each (λ x. Each (IsSmallShown a) (typed x)) c
      → normal code_cmp p (extend image (carried_terms q c)) ≡ quote_small_chain a (normal (small_cmp a) p (extend typed c))
  small-sum image typed same shown =
      ap (normal code_cmp p) (carried-extend q (quote_small a) image typed c same)
      ∙ small-chain a p (extend typed c) (each-extend (IsSmallShown a) typed c shown)

  -- with images in the space
  pub big-sum : (image : L → Terms CodeCell) (typed : K → Terms (Cell a)) → HasCells a → Each (λ x. image (q x) ≡ quote_chain a (typed x)) c
      → Each (λ x. Each (IsShown a) (typed x)) c
      → normal cell_cmp p (extend image (carried_terms q c)) ≡ quote_chain a (normal (by_degree (ordered a).cmp) p (extend typed c))
  big-sum image typed cells same shown =
      ap (normal cell_cmp p) (carried-extend q (λ (x : Cell a). quote_cell a x.0 x.1) image typed c same)
      ∙ chain-cells a cells p (extend typed c) (each-extend (IsShown a) typed c shown)
