use Rattle.std.proofs.Common.{◌∷◌, ◌∙◌}
use Rattle.fp_field.specs.Field.{number}
use Rattle.fp_field.specs.Normal.{normal}
use Rattle.cells.specs.Order.{cell_cmp}
use Rattle.twist_rules.proofs.OneChains.{one-normal}
use Rattle.twist_rules.proofs.found_at.single.Goals as goal

pub returns-clause-terms : goal.returns-clause-terms
returns-clause-terms c =
    c.in_ok-add_term.ensures.sum ∙ (λ i. normal cell_cmp (number (c.new-chain.ensures.prime i)) ((c.in_ok-copy_cell.ensures i, 1) ∷ c.new-chain.ensures.zero i))
    ∙ one-normal c.args.p c.args.x.now
