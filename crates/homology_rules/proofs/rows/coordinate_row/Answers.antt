use Rattle.std.proofs.Common.{◌+◌, ◌%◌, set, ◌∙◌, ap}
use Rattle.cells.specs.Small.{small_cmp}
use Rattle.cells.specs.Laws.{small_total}
use Rattle.fp_field.specs.Field.{number}
use Rattle.echelons.specs.Echelon.{at_place}
use Rattle.homology_rules.proofs.Coordinates.{coords-none, entry-found, entry-missed}
use Rattle.homology_rules.proofs.rows.coordinate_row.Goals as goal
use Rattle.homology_rules.proofs.rows.coordinate_row.Goals.{in-Ok+in_ok-add_entry-in-Ok, in-Err}

pub loop-y-init : goal.loop-y-init
loop-y-init c = record { prime = c.zero-row.ensures.prime; values = c.zero-row.ensures.values ∙ coords-none small_cmp small_total (number c.args.p) c.args.cells.now c.args.more }

pub loop-y-preserved : goal.loop-y-preserved
loop-y-preserved c =
    elim c.match-binary_search.branch [
      | in-Ok+in_ok-add_entry-in-Ok w ↦ record {
        prime = ap (λ r. r.prime) w.row-is ∙ w.in_ok-add_entry-in-Ok.ensures.prime ∙ c.loop-y.invariant.prime;
        values = entry-found small_cmp small_total (number c.args.p) c.args.cells.now c.args.more c.terms-y-items.result.now c.loop-y.y-index c.loop-y-item.result c.loop-y-test.true c.loop-y-item.is
            c.loop-y.row.values c.match-binary_search.row.values w.in-Ok.place c.loop-y-item.result.0 c.requires.rising w.in-Ok.ensures.bound (w.in-Ok.ensures.ok c.loop-y-item.result.0)
            c.loop-y.invariant.values
            (ap (λ r. r.values) w.row-is ∙ w.in_ok-add_entry-in-Ok.ensures.entry
            ∙ ap (λ q. set c.loop-y.row.values w.in-Ok.place ((at_place c.loop-y.row.values w.in-Ok.place + c.loop-y-item.result.1.value) % number q)) c.loop-y.invariant.prime);
      }
      | in-Err w ↦ record {
        prime = ap (λ r. r.prime) w.row-is ∙ c.loop-y.invariant.prime;
        values = ap (λ r. r.values) w.row-is
            ∙ entry-missed small_cmp small_total (number c.args.p) c.args.cells.now c.args.more c.terms-y-items.result.now c.loop-y.y-index c.loop-y-item.result c.loop-y-test.true c.loop-y-item.is
            c.loop-y.row.values w.in-Err.field-0 c.requires.rising w.in-Err.ensures.position c.loop-y.invariant.values;
      }
    ]
