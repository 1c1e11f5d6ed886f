use Rattle.std.proofs.Common.{◌∙◌, ap, length}
use Rattle.std.proofs.lemmas.List.Elements.{All-push, All-same}
use Rattle.cells.specs.Small.{small_cmp}
use Rattle.oracle_iface.specs.declared.cell_values.CellValue.{CellValue}
use Rattle.elim_fp.specs.Rows.{IsRow}
use Rattle.homology_rules.specs.Held.{small_in}
use Rattle.homology_rules.proofs.SpanSteps.{coordinates-row, coordinates_more}
use Rattle.homology_rules.proofs.spans.coordinate_rows.Goals as goal

pub loop-chain-preserved : goal.loop-chain-preserved
loop-chain-preserved c = record {
  each = All-same (IsRow c.args.p (length c.args.cells.now)) _ _ c.in_ok-push.ensures.items
      (All-push (IsRow c.args.p (length c.args.cells.now)) c.loop-chain.rows.items c.in_ok-coordinate_row.field-0 c.loop-chain.invariant.each
      (coordinates-row small_cmp c.args.p c.args.cells.now c.small_chain.result.now.terms c.in_ok-coordinate_row.field-0 c.in_ok-coordinate_row.ensures.prime c.in_ok-coordinate_row.ensures.values));
  rows = coordinates_more small_cmp c.args.p c.args.cells.now (λ (v : CellValue). (small_in v.outcome).terms) c.args.chains.now c.loop-chain.chain-index c.chain-item.result c.loop-chain.rows.items
      c.push.new.self.items c.in_ok-coordinate_row.field-0 c.small_chain.result.now.terms c.loop-chain-test.true c.chain-item.is c.loop-chain.invariant.rows c.in_ok-coordinate_row.ensures.values
      (ap (λ x. x.terms) c.small_chain.ensures ∙ ap (λ v. (small_in v.outcome).terms) c.get.ensures) c.in_ok-push.ensures.items;
}
