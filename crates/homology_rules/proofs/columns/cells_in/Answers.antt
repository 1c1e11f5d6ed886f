use Rattle.std.proofs.Common.{◌∙◌, ap}
use Rattle.std.proofs.lemmas.List.{take_all}
use Rattle.oracle_iface.specs.declared.cell_values.CellValue.{CellValue}
use Rattle.homology_rules.specs.Held.{small_in}
use Rattle.homology_rules.specs.CycleVectors.{small_chains}
use Rattle.homology_rules.proofs.ColumnSteps.{keys_in, chain_more, once-rising, once-covers}
use Rattle.homology_rules.proofs.columns.cells_in.Goals as goal

pub loop-chain-preserved : goal.loop-chain-preserved
loop-chain-preserved c =
    chain_more (λ (v : CellValue). (small_in v.outcome).terms) c.loop-chain.cells.items c.push_cells.new.cells.items c.args.chains.now c.loop-chain.chain-index c.chain-item.result
    c.small_chain.result.now.terms c.loop-chain-test.true c.chain-item.is c.loop-chain.invariant
    (ap (λ x. x.terms) c.small_chain.ensures ∙ ap (λ v. (small_in v.outcome).terms) c.get.ensures) c.in_ok-push_cells.ensures

pub returns-clause-rising : goal.returns-clause-rising
returns-clause-rising c =
    once-rising c.loop-chain.cells.items c.sort_unstable.new.self.items c.dedup.new.self.items c.sort_unstable.ensures.permutation c.sort_unstable.ensures.sorted c.dedup.ensures.filtered

pub returns-clause-covered : goal.returns-clause-covered
returns-clause-covered c =
    once-covers c.loop-chain.cells.items c.sort_unstable.new.self.items c.dedup.new.self.items c.sort_unstable.ensures.permutation c.sort_unstable.ensures.sorted c.dedup.ensures.filtered
    (small_chains c.args.chains.now)
    (c.loop-chain.invariant ∙ ap (λ vs. keys_in (small_chains vs)) (take_all c.loop-chain.chain-index c.args.chains.now c.loop-chain-test.false))
