use Rattle.std.proofs.Common.{◌+◌, false, length, get_or, ◌∙◌, ap}
use Rattle.std.proofs.lemmas.List.Elements.{All-push, All-same}
use Rattle.cells.specs.Small.{small_cmp}
use Rattle.fp_field.specs.Field.{number}
use Rattle.oracle_iface.specs.declared.cell_values.CellValue.{CellValue}
use Rattle.homology_rules.specs.Held.{small_in}
use Rattle.homology_rules.specs.CycleVectors.{kernel_row}
use Rattle.elim_fp.specs.Rows.{IsRow}
use Rattle.homology_rules.proofs.RowSteps.{rows_more, row-is}
use Rattle.homology_rules.proofs.rows.kernel_rows_of.Goals as goal

pub loop-i-preserved : goal.loop-i-preserved
loop-i-preserved c = record {
  each = All-same (IsRow c.args.p (length c.args.cells.now + length c.args.chains.now)) _ _ c.in_ok-push.ensures.ok
      (All-push (IsRow c.args.p (length c.args.cells.now + length c.args.chains.now)) c.loop-i.rows c.in_ok-kernel_row_of.field-0 c.loop-i.invariant.each
      (row-is small_cmp c.args.p c.args.cells.now (length c.args.chains.now) (get_or c.args.marks.now c.loop-i.i false) c.small_chain-chain.result.now.terms c.loop-i.i c.in_ok-kernel_row_of.field-0
      c.in_ok-kernel_row_of.ensures.prime c.in_ok-kernel_row_of.ensures.values));
  rows = rows_more small_cmp (number c.args.p) c.args.cells.now (length c.args.chains.now) (λ (v : CellValue). (small_in v.outcome).terms) c.args.marks.now c.args.chains.now c.requires.lengths
      c.loop-i.i false c.index-chains-i.result c.loop-i.rows c.push.new.self c.in_ok-kernel_row_of.field-0 c.loop-i-test.true c.index-chains-i.is c.loop-i.invariant.rows
      (c.in_ok-kernel_row_of.ensures.values
      ∙ ap (λ x. kernel_row small_cmp (number c.args.p) c.args.cells.now (length c.args.chains.now) (get_or c.args.marks.now c.loop-i.i false) x c.loop-i.i)
      (ap (λ x. x.terms) c.small_chain-chain.ensures ∙ ap (λ v. (small_in v.outcome).terms) c.get.ensures))
      c.in_ok-push.ensures.ok;
}
