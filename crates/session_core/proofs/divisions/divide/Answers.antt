use Rattle.std.proofs.Common.{◌≡◌, ◌%◌, All, length, sym, ◌∙◌, ap, subst}
use Rattle.std.proofs.lemmas.List.{length-map}
use Rattle.std.proofs.lemmas.List.Elements.{All-same}
use Rattle.std.specs.Ordering.{eq_by_cmp}
use Rattle.fp_field.specs.Field.{number}
use Rattle.fp_field.specs.Chains.{coeff}
use Rattle.echelons.specs.Echelon.{coordinates, remainder, IsReducedEchelon}
use Rattle.cells.specs.declared.cells.SmallCell.{SmallCell}
use Rattle.cells.specs.Small.{small_cmp}
use Rattle.elim_fp.specs.Rows.{DenseRow, vectors_of, IsRow}
use Rattle.oracle_iface.specs.declared.cell_values.CellValue.{CellValue}
use Rattle.homology_rules.specs.Held.{small_in}
use Rattle.homology_rules.specs.CycleVectors.{coordinates_over, small_chains}
use Rattle.homology_rules.proofs.SpanSteps.{coordinates-row}
use Rattle.session_core.specs.Questions.{thrifty_numbers}
use Rattle.session_core.specs.Divisions.{less_combined}
use Rattle.session_core.proofs.DivideSteps.{nothing-more, rows-of, left-wide}
use Rattle.session_core.proofs.divisions.divide.Goals as goal

pub leading_entries-requires-clause-width : goal.leading_entries-requires-clause-width
leading_entries-requires-clause-width c =
    ap length (c.in_ok-left.ensures.values ∙ (λ i. remainder (number (c.in_ok-span.ensures.prime i)) (c.in_ok-span.ensures.width i) (c.in_ok-span.ensures.rows i) ((c.in_ok-vector.ensures.values ∙ nothing-more (coordinates_over small_cmp (number c.args.p) c.args.cells.now c.args.image.now.terms)) i)))
    ∙ left-wide small_cmp c.args.p c.args.cells.now (small_chains c.args.next.now) c.args.image.now.terms ∙ sym c.in_ok-cycles.ensures.width

pub less_combination-requires-clause-row : goal.less_combination-requires-clause-row
less_combination-requires-clause-row c =
    let row = coordinates-row small_cmp c.args.p c.args.cells.now c.args.image.now.terms c.in_ok-vector.vector c.in_ok-vector.ensures.prime c.in_ok-vector.ensures.values in
    subst (λ n. IsRow c.in_ok-vector.vector.prime n c.in_ok-vector.vector) (sym row.vector.wide) (subst (λ q. IsRow q (length c.args.cells.now) c.in_ok-vector.vector) (sym c.in_ok-vector.ensures.prime) row)

pub less_combination-requires-clause-rows : goal.less_combination-requires-clause-rows
less_combination-requires-clause-rows c =
    let row = coordinates-row small_cmp c.args.p c.args.cells.now c.args.image.now.terms c.in_ok-vector.vector c.in_ok-vector.ensures.prime c.in_ok-vector.ensures.values in
    let rows = rows-of c.in_ok-cycles.cycles.prime c.in_ok-cycles.cycles.width c.rows.result.now
    (subst (IsReducedEchelon (number c.in_ok-cycles.cycles.prime) c.in_ok-cycles.cycles.width) (sym c.rows.ensures.rows) c.rows.ensures.echelon) c.rows.ensures.primes in
    All-same (IsRow c.in_ok-vector.vector.prime (length c.in_ok-vector.vector.values)) _ _ c.as_slice.ensures
    (subst (λ n. All (IsRow c.in_ok-vector.vector.prime n) c.rows.result.now) (c.in_ok-cycles.ensures.width ∙ sym row.vector.wide)
    (subst (λ q. All (IsRow q c.in_ok-cycles.cycles.width) c.rows.result.now) (c.in_ok-cycles.ensures.prime ∙ sym c.in_ok-vector.ensures.prime) rows))

pub thrifty_of-requires-clause-rows : goal.thrifty_of-requires-clause-rows
thrifty_of-requires-clause-rows c =
    let row = coordinates-row small_cmp c.args.p c.args.cells.now c.args.image.now.terms c.in_ok-vector.vector c.in_ok-vector.ensures.prime c.in_ok-vector.ensures.values in
    subst (λ n. All (IsRow c.args.p n) c.in_ok-boundaries.boundaries.items) (sym (c.in_ok-rest.ensures.row.vector.wide ∙ row.vector.wide)) c.in_ok-boundaries.ensures.each

pub returns-clause-class : goal.returns-clause-class
returns-clause-class c = (c.in_ok-class.ensures.values ∙ (λ i. coordinates (c.in_ok-cycles.ensures.rows i) ((c.in_ok-left.ensures.values ∙ (λ i. remainder (number (c.in_ok-span.ensures.prime i)) (c.in_ok-span.ensures.width i) (c.in_ok-span.ensures.rows i) ((c.in_ok-vector.ensures.values ∙ nothing-more (coordinates_over small_cmp (number c.args.p) c.args.cells.now c.args.image.now.terms)) i))) i)))

pub returns-clause-filling_width : goal.returns-clause-filling_width
returns-clause-filling_width c =
    c.in_ok-filling.ensures.width
    ∙ sym (length-map c.in_ok-boundaries.boundaries.items (λ (x : DenseRow). x.values)) ∙ ap length c.in_ok-boundaries.ensures.rows
    ∙ length-map (small_chains c.args.next.now) (λ d. coordinates_over small_cmp (number c.args.p) c.args.cells.now d)
    ∙ length-map c.args.next.now (λ (v : CellValue). (small_in v.outcome).terms)

pub returns-clause-filling : goal.returns-clause-filling
returns-clause-filling c = λ a.
    let row = coordinates-row small_cmp c.args.p c.args.cells.now c.args.image.now.terms c.in_ok-vector.vector c.in_ok-vector.ensures.prime c.in_ok-vector.ensures.values in
    c.in_ok-filling.ensures.values a
    ∙ (λ i. thrifty_numbers (number c.args.p) a ((c.in_ok-rest.ensures.row.vector.wide ∙ row.vector.wide) i) (c.in_ok-boundaries.ensures.rows i) ((c.in_ok-rest.ensures.values ∙ (λ i. less_combined (number (c.in_ok-vector.ensures.prime i)) ((ap length (c.in_ok-vector.ensures.values ∙ nothing-more (coordinates_over small_cmp (number c.args.p) c.args.cells.now c.args.image.now.terms)) ∙ length-map c.args.cells.now (λ (y : SmallCell). coeff (eq_by_cmp small_cmp) c.args.image.now.terms y % number c.args.p)) i) ((c.in_ok-vector.ensures.values ∙ nothing-more (coordinates_over small_cmp (number c.args.p) c.args.cells.now c.args.image.now.terms)) i) ((c.in_ok-class.ensures.values ∙ (λ i. coordinates (c.in_ok-cycles.ensures.rows i) ((c.in_ok-left.ensures.values ∙ (λ i. remainder (number (c.in_ok-span.ensures.prime i)) (c.in_ok-span.ensures.width i) (c.in_ok-span.ensures.rows i) ((c.in_ok-vector.ensures.values ∙ nothing-more (coordinates_over small_cmp (number c.args.p) c.args.cells.now c.args.image.now.terms)) i))) i))) i) ((ap vectors_of c.as_slice.ensures ∙ c.rows.ensures.rows ∙ c.in_ok-cycles.ensures.rows) i))) i))
