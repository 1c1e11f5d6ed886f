use Rattle.std.proofs.Common.{◌++◌, ◌∙◌, ap}
use Rattle.oracle_iface.specs.declared.cell_values.CellValue.{CellValue}
use Rattle.homology_rules.specs.Degrees.{cells_held}
use Rattle.twist_rules.specs.PairBases.{cell_pairs}
use Rattle.twist_rules.proofs.PairSteps.{held-more, held-all}
use Rattle.twist_rules.proofs.small_pairs.pairs_in.Goals as goal

pub loop-i-preserved : goal.loop-i-preserved
loop-i-preserved c =
    held-more c.args.cells.now c.loop-i.i c.index-cells-i.result c.index-cells-i-in-loop-i.result c.loop-i.pairs c.push_pairs.new.pairs c.loop-i-test.true c.index-cells-i.is
    c.index-cells-i-in-loop-i.is c.loop-i.invariant
    (c.in_ok-push_pairs.ensures
    ∙ (λ j. c.loop-i.pairs ++ cell_pairs ((c.as_slice.ensures ∙ c.small_cells-left.ensures ∙ ap (λ (v : CellValue). cells_held v.outcome) c.get.ensures) j)
    ((c.as_slice-in-loop-i.ensures ∙ c.small_cells-right.ensures ∙ ap (λ (v : CellValue). cells_held v.outcome) c.get-in-loop-i.ensures) j)))

pub returns : goal.returns
returns c = held-all c.args.cells.now c.loop-i.i c.loop-i.pairs c.loop-i-test.false c.loop-i.invariant
