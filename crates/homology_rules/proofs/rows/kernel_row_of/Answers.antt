use Rattle.std.proofs.Common.{◌≡◌, ◌+◌, ◌%◌, ◌<◌, length, set, sym, ◌∙◌, ap, arith}
use Rattle.cells.specs.Small.{small_cmp}
use Rattle.fp_field.specs.Field.{number}
use Rattle.fp_field.proofs.Primes.{number_above_one}
use Rattle.echelons.specs.Echelon.{at_place}
use Rattle.echelons.proofs.Vectors.{length-zeros}
use Rattle.homology_rules.specs.CycleVectors.{kernel_row}
use Rattle.homology_rules.proofs.RowSteps.{unit-row}
use Rattle.homology_rules.proofs.rows.kernel_row_of.Goals as goal

pub add_entry-requires-clause-place : goal.add_entry-requires-clause-place
add_entry-requires-clause-place c =
    let e : length c.zero-row.result.values ≡ length c.args.cells.now + c.args.count = ap length c.zero-row.ensures.values ∙ length-zeros (length c.args.cells.now + c.args.count) in
    let l : c.args.place < c.args.count = c.requires.place in
    omega (arith, e)

pub returns-in_ok-add_entry-clause-values : goal.returns-in_ok-add_entry-clause-values
returns-in_ok-add_entry-clause-values c =
    unit-row (number c.args.p) (length c.args.cells.now) c.args.count c.args.place c.add_entry.new.self.values (number_above_one c.args.p) c.requires.place
    (c.in_ok-add_entry.ensures.entry
    ∙ (λ j. set (c.zero-row.ensures.values j) (length c.args.cells.now + c.args.place)
    ((at_place (c.zero-row.ensures.values j) (length c.args.cells.now + c.args.place) + 1) % number (c.zero-row.ensures.prime j))))
    ∙ ap (λ m. kernel_row small_cmp (number c.args.p) c.args.cells.now c.args.count m c.args.chain.now.terms c.args.place) (sym c.if-marked.true)
