use Rattle.std.proofs.Common.{◌≡◌, ◌+◌, ◌<◌, false, length, replicate, All, vec_len, sym, ◌∙◌, ap, subst, arith}
use Rattle.std.proofs.lemmas.List.{length-map, length-replicate}
use Rattle.std.proofs.lemmas.List.Elements.{All-same}
use Rattle.std.proofs.lemmas.Result.{IfOk-weaker}
use Rattle.cells.specs.Small.{small_cmp}
use Rattle.cells.specs.Laws.{small_total}
use Rattle.cells.proofs.OneSmall.{one_small}
use Rattle.fp_field.specs.Field.{number}
use Rattle.echelons.specs.Echelon.{in_kernel, reduced_basis, lead, IsReducedEchelon}
use Rattle.elim_fp.specs.Rows.{vectors_of}
use Rattle.oracle_iface.specs.declared.cell_values.CellValue.{CellValue}
use Rattle.homology_rules.specs.Held.{small_in}
use Rattle.homology_rules.specs.CycleVectors.{small_chains, cycle_vectors_over, AreCovered}
use Rattle.homology_rules.proofs.SpanSteps.{leads-below, leads-vectors, length-marked, length-rows, cycles-are}
use Rattle.homology_rules.proofs.spans.cycle_rows.Goals as goal
use Rattle.homology_rules.proofs.spans.cycle_rows.Goals.{After-as_slice, After-deref-2, After-matrix_of}

leading : (c : After-as_slice) → All (λ r. lead r.values < length c.args.cells.now) c.as_slice.result.now
leading c =
    All-same (λ r. lead r.values < length c.args.cells.now) _ _ c.as_slice.ensures
    (subst (λ w. All (λ r. lead r.values < w) c.rows.result.now) c.in_ok-span.ensures.width
    (leads-below (number c.in_ok-span.span.prime) c.in_ok-span.span.width c.rows.result.now
    (subst (IsReducedEchelon (number c.in_ok-span.span.prime) c.in_ok-span.span.width) (sym c.rows.ensures.rows) c.rows.ensures.echelon)))

pub leading_marks-requires : goal.leading_marks-requires
leading_marks-requires c = leading (goal.at.leading_marks-requires c).After-as_slice

many : (c : After-deref-2) → length c.deref-2.result.now ≡ length c.args.chains.now
many c =
    ap length (c.deref-2.ensures.value ∙ c.in_ok-marks.ensures) ∙ length-marked (vectors_of c.as_slice.result.now) (replicate (length c.args.cells.now) false)
    ∙ length-replicate (length c.args.cells.now) false ∙ sym c.requires.lengths

pub kernel_rows_of-requires-clause-lengths : goal.kernel_rows_of-requires-clause-lengths
kernel_rows_of-requires-clause-lengths c = many (goal.at.kernel_rows_of-requires-clause-lengths c).After-deref-2

images : (c : After-matrix_of) → length c.deref-2.result.now ≡ length c.args.chains.now → length c.matrix_of.result.rows ≡ length c.args.cells.now
images c m =
    ap length (c.matrix_of.ensures.rows ∙ c.in_ok-rows.ensures.rows)
    ∙ length-rows small_cmp (number c.args.p) c.deref.result.now (length c.args.chains.now) 0 c.deref-2.result.now (small_chains c.args.chains.now)
    (m ∙ sym (length-map c.args.chains.now (λ (v : CellValue). (small_in v.outcome).terms)))
    ∙ m ∙ c.requires.lengths

wide : (c : After-matrix_of) → c.matrix_of.result.width ≡ length c.deref.result.now + length c.args.chains.now
wide c =
    let e : c.len.result ≡ vec_len c.in_ok-columns.columns = c.len.ensures in
    let f : length c.deref.result.now ≡ vec_len c.in_ok-columns.columns = c.deref.ensures.len in
    let g : c.matrix_of.result.width ≡ c.len.result + length c.args.chains.now = c.matrix_of.ensures.width in
    omega arith

pub returns-clause-width : goal.returns-clause-width
returns-clause-width c =
    let d = goal.at.returns-clause-width c in
    IfOk-weaker c.relations-2.result (λ e. e.width ≡ length c.matrix_of.result.rows) (λ e. e.width ≡ length c.args.cells.now)
    (λ e h. h ∙ images d.After-matrix_of (many d.After-deref-2)) c.relations-2.ensures.width

pub returns-clause-rows : goal.returns-clause-rows
returns-clause-rows c =
    let d = goal.at.returns-clause-rows c in
    IfOk-weaker c.relations-2.result
    (λ e. e.rows ≡ reduced_basis (number c.matrix_of.result.prime) (length c.matrix_of.result.rows) (in_kernel (number c.matrix_of.result.prime) c.matrix_of.result.width c.matrix_of.result.rows))
    (λ e. e.rows ≡ cycle_vectors_over small_cmp (number c.args.p) c.args.cells.now (small_chains c.args.chains.now) (small_chains c.args.above.now))
    (λ e h.
    h ∙ ap (λ q. reduced_basis (number q) (length c.matrix_of.result.rows) (in_kernel (number q) c.matrix_of.result.width c.matrix_of.result.rows)) c.matrix_of.ensures.prime
    ∙ cycles-are small_cmp small_total one_small c.args.p c.args.cells.now c.deref.result.now (small_chains c.args.chains.now) (small_chains c.args.above.now)
    (length-map c.args.chains.now (λ (v : CellValue). (small_in v.outcome).terms) ∙ c.requires.lengths)
    (subst (λ l. AreCovered l (small_chains c.args.chains.now)) (sym c.deref.ensures.value) c.in_ok-columns.ensures.covered)
    (vectors_of c.as_slice.result.now) c.deref-2.result.now c.matrix_of.result.rows c.matrix_of.result.width (length c.args.chains.now)
    (ap vectors_of c.as_slice.ensures ∙ c.rows.ensures.rows ∙ c.in_ok-span.ensures.rows)
    (leads-vectors (length c.args.cells.now) c.as_slice.result.now (leading d.After-as_slice))
    (c.deref-2.ensures.value ∙ c.in_ok-marks.ensures) c.requires.lengths (c.matrix_of.ensures.rows ∙ c.in_ok-rows.ensures.rows) (wide d.After-matrix_of))
    c.relations-2.ensures.rows
