use Rattle.std.proofs.Common.{true, refl, ◌∙◌}
use Rattle.std.proofs.lemmas.List.{length-set}
use Rattle.homology_rules.proofs.Marking.{mark_more}
use Rattle.homology_rules.proofs.marks.leading_marks.Goals as goal

pub loop-row-preserved : goal.loop-row-preserved
loop-row-preserved c = record {
  wide = length-set c.loop-row.marks.items c.lead-place.result true ∙ c.loop-row.invariant.wide;
  marks = mark_more c.args.rows.now c.loop-row.row-index c.row-item.result c.loop-row.marks.items _ _ c.lead-place.result c.loop-row-test.true c.row-item.is c.lead-place.ensures refl
      c.loop-row.invariant.marks;
}
