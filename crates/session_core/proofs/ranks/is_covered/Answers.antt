use Rattle.std.proofs.Common.{refl, ◌∙◌, ap}
use Rattle.oracle_iface.specs.declared.cell_values.CellValue.{CellValue}
use Rattle.homology_rules.specs.Held.{small_in}
use Rattle.session_core.proofs.CoverSteps.{chain-more}
use Rattle.session_core.proofs.ranks.is_covered.Goals as goal

pub loop-chain-preserved : goal.loop-chain-preserved
loop-chain-preserved c =
    chain-more c.args.cells.now (λ (v : CellValue). (small_in v.outcome).terms) c.args.chains.now c.loop-chain.chain-index c.chain-item.result c.small_chain.result.now.terms c.loop-chain-test.true c.chain-item.is
    (ap (λ x. x.terms) c.small_chain.ensures ∙ ap (λ v. (small_in v.outcome).terms) c.get.ensures)
    (c.if-not-has_cells.ensures refl) c.loop-chain.invariant
