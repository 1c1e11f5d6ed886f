use Rattle.std.proofs.Common.{◌≡◌, ◌+◌, None, Some, map, length, All, sym, ◌∙◌, ap, subst}
use Rattle.std.specs.List.Sorted.{IsStrictlySortedBy}
use Rattle.std.proofs.lemmas.List.Elements.{All-same}
use Rattle.fp_field.specs.Field.{number}
use Rattle.cells.specs.Small.{small_cmp}
use Rattle.echelons.specs.Echelon.{IsReducedEchelon}
use Rattle.elim_fp.specs.Rows.{vectors_of}
use Rattle.oracle_iface.specs.declared.bodies.Body.TheVariants.{Many}
use Rattle.oracle_iface.specs.Forcing.{Asked}
use Rattle.homology_rules.specs.Asking.{first_refusal, MayForceEach, AskedFirst}
use Rattle.homology_rules.specs.Held.{HasSmallOver}
use Rattle.homology_rules.specs.Vectors.{keys_of_vectors, carried_of, AreCarried}
use Rattle.homology_rules.specs.Degrees.{IsDegreeAnswer}
use Rattle.homology_rules.proofs.InDegrees.{widths, all_small, chains_found, chains_count, cells_found, has_cells, vectors_found, refused_low, refused_high, refused_last, may_low, may_high, may_last, asked_low, asked_high, asked_both, asked_last, asked_every}
use Rattle.homology_rules.proofs.cycles.cycles_by_asking.Goals as goal

pub ask_degree-requires : goal.ask_degree-requires
ask_degree-requires g c =
    may_low c.args.key.now c.args.n g.F.Forcer.may_force g.F.Forcer.forces c.args.forcer.now c.args.forcer.now c.args.forcer.now c.args.forcer.now c.requires.forcer

pub returns-in_err-over-clause-asked : goal.returns-in_err-over-clause-asked
returns-in_err-over-clause-asked g c =
    asked_low c.args.key.now c.args.n g.F.Forcer.may_force g.F.Forcer.forces c.args.forcer.now c.ask_degree.new.forcer c.ask_degree.new.forcer c.ask_degree.new.forcer c.ask_degree.ensures.asked

pub returns-in-Over-clause-asked : goal.returns-in-Over-clause-asked
returns-in-Over-clause-asked g c =
    asked_low c.args.key.now c.args.n g.F.Forcer.may_force g.F.Forcer.forces c.args.forcer.now c.ask_degree.new.forcer c.ask_degree.new.forcer c.ask_degree.new.forcer c.ask_degree.ensures.asked

pub returns-in-Over-clause-outcome : goal.returns-in-Over-clause-outcome
returns-in-Over-clause-outcome g c =
    refused_low c.args.key.now c.args.n c.in-Over.over
    (subst (λ x. IsDegreeAnswer g.F.Forcer.forces c.args.key.now c.args.n c.args.forcer.now c.ask_degree.new.forcer x) c.in-Over.is c.in_ok-over.ensures.answers)

pub ask_degree-requires-2 : goal.ask_degree-requires-2
ask_degree-requires-2 g c =
    let low = subst (λ x. IsDegreeAnswer g.F.Forcer.forces c.args.key.now c.args.n c.args.forcer.now c.ask_degree.new.forcer x) c.in-Found.is c.in_ok-over.ensures.answers in
    may_high c.args.key.now c.args.n g.F.Forcer.may_force g.F.Forcer.forces c.args.forcer.now c.ask_degree.new.forcer c.ask_degree.new.forcer c.ask_degree.new.forcer c.requires.forcer low.none_refused low.asked

pub returns-in_err-over-2-clause-asked : goal.returns-in_err-over-2-clause-asked
returns-in_err-over-2-clause-asked g c =
    let low = subst (λ x. IsDegreeAnswer g.F.Forcer.forces c.args.key.now c.args.n c.args.forcer.now c.ask_degree.new.forcer x) c.in-Found.is c.in_ok-over.ensures.answers in
    asked_high c.args.key.now c.args.n g.F.Forcer.may_force g.F.Forcer.forces c.args.forcer.now c.ask_degree.new.forcer c.ask_degree-2.new.forcer c.ask_degree-2.new.forcer low.none_refused low.asked c.ask_degree-2.ensures.asked

pub returns-in-Over-2-clause-asked : goal.returns-in-Over-2-clause-asked
returns-in-Over-2-clause-asked g c =
    let low = subst (λ x. IsDegreeAnswer g.F.Forcer.forces c.args.key.now c.args.n c.args.forcer.now c.ask_degree.new.forcer x) c.in-Found.is c.in_ok-over.ensures.answers in
    asked_high c.args.key.now c.args.n g.F.Forcer.may_force g.F.Forcer.forces c.args.forcer.now c.ask_degree.new.forcer c.ask_degree-2.new.forcer c.ask_degree-2.new.forcer low.none_refused low.asked c.ask_degree-2.ensures.asked

pub returns-in-Over-2-clause-outcome : goal.returns-in-Over-2-clause-outcome
returns-in-Over-2-clause-outcome g c =
    let low = subst (λ x. IsDegreeAnswer g.F.Forcer.forces c.args.key.now c.args.n c.args.forcer.now c.ask_degree.new.forcer x) c.in-Found.is c.in_ok-over.ensures.answers in
    refused_high c.args.key.now c.args.n c.in-Over-2.over low.none_refused
    (subst (λ x. IsDegreeAnswer g.F.Forcer.forces c.args.key.now (c.args.n + 1) c.ask_degree.new.forcer c.ask_degree-2.new.forcer x) c.in-Over-2.is c.in_ok-over-2.ensures.answers)

pub small_cells-requires : goal.small_cells-requires
small_cells-requires g c =
    let low = subst (λ x. IsDegreeAnswer g.F.Forcer.forces c.args.key.now c.args.n c.args.forcer.now c.ask_degree.new.forcer x) c.in-Found.is c.in_ok-over.ensures.answers in
    has_cells c.args.key.now g.F.Forcer.forces c.args.n c.args.forcer.now c.ask_degree.new.forcer c.in-Found.held c.in-Found.chains.items low c.get.result.now c.get.ensures

pub cycle_rows-requires-clause-rising : goal.cycle_rows-requires-clause-rising
cycle_rows-requires-clause-rising g c =
    let low = subst (λ x. IsDegreeAnswer g.F.Forcer.forces c.args.key.now c.args.n c.args.forcer.now c.ask_degree.new.forcer x) c.in-Found.is c.in_ok-over.ensures.answers in
    let cells = cells_found c.args.key.now g.F.Forcer.forces c.args.n c.args.forcer.now c.ask_degree.new.forcer c.in-Found.held c.in-Found.chains.items low c.get.result.now c.small_cells.result.now c.as_slice-cells.result.now c.get.ensures c.small_cells.ensures c.as_slice-cells.ensures in
    subst (IsStrictlySortedBy small_cmp) (sym cells) c.requires.rising

pub cycle_rows-requires-clause-lengths : goal.cycle_rows-requires-clause-lengths
cycle_rows-requires-clause-lengths g c =
    let low = subst (λ x. IsDegreeAnswer g.F.Forcer.forces c.args.key.now c.args.n c.args.forcer.now c.ask_degree.new.forcer x) c.in-Found.is c.in_ok-over.ensures.answers in
    let cells = cells_found c.args.key.now g.F.Forcer.forces c.args.n c.args.forcer.now c.ask_degree.new.forcer c.in-Found.held c.in-Found.chains.items low c.get.result.now c.small_cells.result.now c.as_slice-cells.result.now c.get.ensures c.small_cells.ensures c.as_slice-cells.ensures in
    ap length c.deref.ensures.value ∙ chains_count c.args.key.now g.F.Forcer.forces c.args.n c.args.forcer.now c.ask_degree.new.forcer c.in-Found.held c.in-Found.chains.items low ∙ ap length (sym cells)

pub cycle_rows-requires-clause-chains : goal.cycle_rows-requires-clause-chains
cycle_rows-requires-clause-chains g c =
    let low = subst (λ x. IsDegreeAnswer g.F.Forcer.forces c.args.key.now c.args.n c.args.forcer.now c.ask_degree.new.forcer x) c.in-Found.is c.in_ok-over.ensures.answers in
    All-same (λ v. HasSmallOver c.args.key.now.prime v.outcome) _ _ c.deref.ensures.value (all_small c.args.key.now g.F.Forcer.forces c.args.n c.args.forcer.now c.ask_degree.new.forcer c.in-Found.held c.in-Found.chains.items low)

pub cycle_rows-requires-clause-above : goal.cycle_rows-requires-clause-above
cycle_rows-requires-clause-above g c =
    let high = subst (λ x. IsDegreeAnswer g.F.Forcer.forces c.args.key.now (c.args.n + 1) c.ask_degree.new.forcer c.ask_degree-2.new.forcer x) c.in-Found-2.is c.in_ok-over-2.ensures.answers in
    All-same (λ v. HasSmallOver c.args.key.now.prime v.outcome) _ _ c.deref-2.ensures.value (all_small c.args.key.now g.F.Forcer.forces (c.args.n + 1) c.ask_degree.new.forcer c.ask_degree-2.new.forcer c.in-Found-2.field-0 c.in-Found-2.above.items high)

pub returns-in_err-vectors-clause-asked : goal.returns-in_err-vectors-clause-asked
returns-in_err-vectors-clause-asked g c =
    let low = subst (λ x. IsDegreeAnswer g.F.Forcer.forces c.args.key.now c.args.n c.args.forcer.now c.ask_degree.new.forcer x) c.in-Found.is c.in_ok-over.ensures.answers in
    let high = subst (λ x. IsDegreeAnswer g.F.Forcer.forces c.args.key.now (c.args.n + 1) c.ask_degree.new.forcer c.ask_degree-2.new.forcer x) c.in-Found-2.is c.in_ok-over-2.ensures.answers in
    asked_both c.args.key.now c.args.n g.F.Forcer.may_force g.F.Forcer.forces c.args.forcer.now c.ask_degree.new.forcer c.ask_degree-2.new.forcer c.ask_degree-2.new.forcer low.none_refused high.none_refused low.asked high.asked

pub carry_all-requires-clause-widths : goal.carry_all-requires-clause-widths
carry_all-requires-clause-widths g c =
    All-same (λ r. length r.values ≡ length c.as_slice-cells.result.now) _ _ c.as_slice.ensures
    (subst (λ w. All (λ r. length r.values ≡ w) c.rows.result.now) c.in_ok-vectors.ensures.width
    (widths (number c.in_ok-vectors.vectors.prime) c.in_ok-vectors.vectors.width c.rows.result.now
    (subst (IsReducedEchelon (number c.in_ok-vectors.vectors.prime) c.in_ok-vectors.vectors.width) (sym c.rows.ensures.rows) c.rows.ensures.echelon)))

pub carry_all-requires-clause-forcer : goal.carry_all-requires-clause-forcer
carry_all-requires-clause-forcer g c =
    let low = subst (λ x. IsDegreeAnswer g.F.Forcer.forces c.args.key.now c.args.n c.args.forcer.now c.ask_degree.new.forcer x) c.in-Found.is c.in_ok-over.ensures.answers in
    let high = subst (λ x. IsDegreeAnswer g.F.Forcer.forces c.args.key.now (c.args.n + 1) c.ask_degree.new.forcer c.ask_degree-2.new.forcer x) c.in-Found-2.is c.in_ok-over-2.ensures.answers in
    let cells = cells_found c.args.key.now g.F.Forcer.forces c.args.n c.args.forcer.now c.ask_degree.new.forcer c.in-Found.held c.in-Found.chains.items low c.get.result.now c.small_cells.result.now c.as_slice-cells.result.now c.get.ensures c.small_cells.ensures c.as_slice-cells.ensures in
    let vectors = vectors_found c.args.key.now c.args.n c.as_slice-cells.result.now c.in-Found.chains.items c.in-Found-2.above.items c.deref.result.now c.deref-2.result.now (vectors_of c.as_slice.result.now)
    cells c.deref.ensures.value c.deref-2.ensures.value (chains_found c.args.key.now g.F.Forcer.forces c.args.n c.args.forcer.now c.ask_degree.new.forcer c.in-Found.held c.in-Found.chains.items low) (chains_found c.args.key.now g.F.Forcer.forces (c.args.n + 1) c.ask_degree.new.forcer c.ask_degree-2.new.forcer c.in-Found-2.field-0 c.in-Found-2.above.items high)
    (ap vectors_of c.as_slice.ensures ∙ c.rows.ensures.rows ∙ c.in_ok-vectors.ensures.rows) in
    subst (MayForceEach g.F.Forcer.may_force g.F.Forcer.forces c.ask_degree-2.new.forcer) (sym (λ j. keys_of_vectors c.args.key.now (cells j) (vectors j)))
    (may_last c.args.key.now c.args.n g.F.Forcer.may_force g.F.Forcer.forces c.args.forcer.now c.ask_degree.new.forcer c.ask_degree-2.new.forcer c.ask_degree-2.new.forcer c.requires.forcer low.none_refused high.none_refused low.asked high.asked)

pub returns-in_err-over-3-clause-asked : goal.returns-in_err-over-3-clause-asked
returns-in_err-over-3-clause-asked g c =
    let low = subst (λ x. IsDegreeAnswer g.F.Forcer.forces c.args.key.now c.args.n c.args.forcer.now c.ask_degree.new.forcer x) c.in-Found.is c.in_ok-over.ensures.answers in
    let high = subst (λ x. IsDegreeAnswer g.F.Forcer.forces c.args.key.now (c.args.n + 1) c.ask_degree.new.forcer c.ask_degree-2.new.forcer x) c.in-Found-2.is c.in_ok-over-2.ensures.answers in
    let cells = cells_found c.args.key.now g.F.Forcer.forces c.args.n c.args.forcer.now c.ask_degree.new.forcer c.in-Found.held c.in-Found.chains.items low c.get.result.now c.small_cells.result.now c.as_slice-cells.result.now c.get.ensures c.small_cells.ensures c.as_slice-cells.ensures in
    let vectors = vectors_found c.args.key.now c.args.n c.as_slice-cells.result.now c.in-Found.chains.items c.in-Found-2.above.items c.deref.result.now c.deref-2.result.now (vectors_of c.as_slice.result.now)
    cells c.deref.ensures.value c.deref-2.ensures.value (chains_found c.args.key.now g.F.Forcer.forces c.args.n c.args.forcer.now c.ask_degree.new.forcer c.in-Found.held c.in-Found.chains.items low) (chains_found c.args.key.now g.F.Forcer.forces (c.args.n + 1) c.ask_degree.new.forcer c.ask_degree-2.new.forcer c.in-Found-2.field-0 c.in-Found-2.above.items high)
    (ap vectors_of c.as_slice.ensures ∙ c.rows.ensures.rows ∙ c.in_ok-vectors.ensures.rows) in
    asked_last c.args.key.now c.args.n g.F.Forcer.may_force g.F.Forcer.forces c.args.forcer.now c.ask_degree.new.forcer c.ask_degree-2.new.forcer c.carry_all.new.forcer low.none_refused high.none_refused low.asked high.asked
    (subst (λ ks. AskedFirst g.F.Forcer.forces ks c.ask_degree-2.new.forcer c.carry_all.new.forcer) (λ j. keys_of_vectors c.args.key.now (cells j) (vectors j)) c.carry_all.ensures.asked)

pub returns-in-Over-3-clause-asked : goal.returns-in-Over-3-clause-asked
returns-in-Over-3-clause-asked g c =
    let low = subst (λ x. IsDegreeAnswer g.F.Forcer.forces c.args.key.now c.args.n c.args.forcer.now c.ask_degree.new.forcer x) c.in-Found.is c.in_ok-over.ensures.answers in
    let high = subst (λ x. IsDegreeAnswer g.F.Forcer.forces c.args.key.now (c.args.n + 1) c.ask_degree.new.forcer c.ask_degree-2.new.forcer x) c.in-Found-2.is c.in_ok-over-2.ensures.answers in
    let cells = cells_found c.args.key.now g.F.Forcer.forces c.args.n c.args.forcer.now c.ask_degree.new.forcer c.in-Found.held c.in-Found.chains.items low c.get.result.now c.small_cells.result.now c.as_slice-cells.result.now c.get.ensures c.small_cells.ensures c.as_slice-cells.ensures in
    let vectors = vectors_found c.args.key.now c.args.n c.as_slice-cells.result.now c.in-Found.chains.items c.in-Found-2.above.items c.deref.result.now c.deref-2.result.now (vectors_of c.as_slice.result.now)
    cells c.deref.ensures.value c.deref-2.ensures.value (chains_found c.args.key.now g.F.Forcer.forces c.args.n c.args.forcer.now c.ask_degree.new.forcer c.in-Found.held c.in-Found.chains.items low) (chains_found c.args.key.now g.F.Forcer.forces (c.args.n + 1) c.ask_degree.new.forcer c.ask_degree-2.new.forcer c.in-Found-2.field-0 c.in-Found-2.above.items high)
    (ap vectors_of c.as_slice.ensures ∙ c.rows.ensures.rows ∙ c.in_ok-vectors.ensures.rows) in
    asked_last c.args.key.now c.args.n g.F.Forcer.may_force g.F.Forcer.forces c.args.forcer.now c.ask_degree.new.forcer c.ask_degree-2.new.forcer c.carry_all.new.forcer low.none_refused high.none_refused low.asked high.asked
    (subst (λ ks. AskedFirst g.F.Forcer.forces ks c.ask_degree-2.new.forcer c.carry_all.new.forcer) (λ j. keys_of_vectors c.args.key.now (cells j) (vectors j)) c.carry_all.ensures.asked)

pub returns-clause-asked : goal.returns-clause-asked
returns-clause-asked g c =
    let low = subst (λ x. IsDegreeAnswer g.F.Forcer.forces c.args.key.now c.args.n c.args.forcer.now c.ask_degree.new.forcer x) c.in-Found.is c.in_ok-over.ensures.answers in
    let high = subst (λ x. IsDegreeAnswer g.F.Forcer.forces c.args.key.now (c.args.n + 1) c.ask_degree.new.forcer c.ask_degree-2.new.forcer x) c.in-Found-2.is c.in_ok-over-2.ensures.answers in
    let cells = cells_found c.args.key.now g.F.Forcer.forces c.args.n c.args.forcer.now c.ask_degree.new.forcer c.in-Found.held c.in-Found.chains.items low c.get.result.now c.small_cells.result.now c.as_slice-cells.result.now c.get.ensures c.small_cells.ensures c.as_slice-cells.ensures in
    let vectors = vectors_found c.args.key.now c.args.n c.as_slice-cells.result.now c.in-Found.chains.items c.in-Found-2.above.items c.deref.result.now c.deref-2.result.now (vectors_of c.as_slice.result.now)
    cells c.deref.ensures.value c.deref-2.ensures.value (chains_found c.args.key.now g.F.Forcer.forces c.args.n c.args.forcer.now c.ask_degree.new.forcer c.in-Found.held c.in-Found.chains.items low) (chains_found c.args.key.now g.F.Forcer.forces (c.args.n + 1) c.ask_degree.new.forcer c.ask_degree-2.new.forcer c.in-Found-2.field-0 c.in-Found-2.above.items high)
    (ap vectors_of c.as_slice.ensures ∙ c.rows.ensures.rows ∙ c.in_ok-vectors.ensures.rows) in
    asked_last c.args.key.now c.args.n g.F.Forcer.may_force g.F.Forcer.forces c.args.forcer.now c.ask_degree.new.forcer c.ask_degree-2.new.forcer c.carry_all.new.forcer low.none_refused high.none_refused low.asked high.asked
    (subst (λ ks. AskedFirst g.F.Forcer.forces ks c.ask_degree-2.new.forcer c.carry_all.new.forcer) (λ j. keys_of_vectors c.args.key.now (cells j) (vectors j)) c.carry_all.ensures.asked)

pub returns-in-Over-3-clause-outcome : goal.returns-in-Over-3-clause-outcome
returns-in-Over-3-clause-outcome g c =
    let low = subst (λ x. IsDegreeAnswer g.F.Forcer.forces c.args.key.now c.args.n c.args.forcer.now c.ask_degree.new.forcer x) c.in-Found.is c.in_ok-over.ensures.answers in
    let high = subst (λ x. IsDegreeAnswer g.F.Forcer.forces c.args.key.now (c.args.n + 1) c.ask_degree.new.forcer c.ask_degree-2.new.forcer x) c.in-Found-2.is c.in_ok-over-2.ensures.answers in
    let cells = cells_found c.args.key.now g.F.Forcer.forces c.args.n c.args.forcer.now c.ask_degree.new.forcer c.in-Found.held c.in-Found.chains.items low c.get.result.now c.small_cells.result.now c.as_slice-cells.result.now c.get.ensures c.small_cells.ensures c.as_slice-cells.ensures in
    let vectors = vectors_found c.args.key.now c.args.n c.as_slice-cells.result.now c.in-Found.chains.items c.in-Found-2.above.items c.deref.result.now c.deref-2.result.now (vectors_of c.as_slice.result.now)
    cells c.deref.ensures.value c.deref-2.ensures.value (chains_found c.args.key.now g.F.Forcer.forces c.args.n c.args.forcer.now c.ask_degree.new.forcer c.in-Found.held c.in-Found.chains.items low) (chains_found c.args.key.now g.F.Forcer.forces (c.args.n + 1) c.ask_degree.new.forcer c.ask_degree-2.new.forcer c.in-Found-2.field-0 c.in-Found-2.above.items high)
    (ap vectors_of c.as_slice.ensures ∙ c.rows.ensures.rows ∙ c.in_ok-vectors.ensures.rows) in
    refused_last c.args.key.now c.args.n (Some c.in-Over-3.over) low.none_refused high.none_refused
    (sym (ap first_refusal (λ j. keys_of_vectors c.args.key.now (cells j) (vectors j))) ∙ (subst (λ x. AreCarried g.F.Forcer.forces (keys_of_vectors c.args.key.now c.as_slice-cells.result.now (vectors_of c.as_slice.result.now))
    (map (λ v. carried_of c.args.key.now c.as_slice-cells.result.now v) (vectors_of c.as_slice.result.now)) c.ask_degree-2.new.forcer c.carry_all.new.forcer x) c.in-Over-3.is c.in_ok-over-3.ensures.carried))

pub returns-clause-outcome : goal.returns-clause-outcome
returns-clause-outcome g c =
    let low = subst (λ x. IsDegreeAnswer g.F.Forcer.forces c.args.key.now c.args.n c.args.forcer.now c.ask_degree.new.forcer x) c.in-Found.is c.in_ok-over.ensures.answers in
    let high = subst (λ x. IsDegreeAnswer g.F.Forcer.forces c.args.key.now (c.args.n + 1) c.ask_degree.new.forcer c.ask_degree-2.new.forcer x) c.in-Found-2.is c.in_ok-over-2.ensures.answers in
    let cells = cells_found c.args.key.now g.F.Forcer.forces c.args.n c.args.forcer.now c.ask_degree.new.forcer c.in-Found.held c.in-Found.chains.items low c.get.result.now c.small_cells.result.now c.as_slice-cells.result.now c.get.ensures c.small_cells.ensures c.as_slice-cells.ensures in
    let vectors = vectors_found c.args.key.now c.args.n c.as_slice-cells.result.now c.in-Found.chains.items c.in-Found-2.above.items c.deref.result.now c.deref-2.result.now (vectors_of c.as_slice.result.now)
    cells c.deref.ensures.value c.deref-2.ensures.value (chains_found c.args.key.now g.F.Forcer.forces c.args.n c.args.forcer.now c.ask_degree.new.forcer c.in-Found.held c.in-Found.chains.items low) (chains_found c.args.key.now g.F.Forcer.forces (c.args.n + 1) c.ask_degree.new.forcer c.ask_degree-2.new.forcer c.in-Found-2.field-0 c.in-Found-2.above.items high)
    (ap vectors_of c.as_slice.ensures ∙ c.rows.ensures.rows ∙ c.in_ok-vectors.ensures.rows) in
    let done = (subst (λ x. AreCarried g.F.Forcer.forces (keys_of_vectors c.args.key.now c.as_slice-cells.result.now (vectors_of c.as_slice.result.now))
    (map (λ v. carried_of c.args.key.now c.as_slice-cells.result.now v) (vectors_of c.as_slice.result.now)) c.ask_degree-2.new.forcer c.carry_all.new.forcer x) c.in-Chains.is c.in_ok-over-3.ensures.carried) in (
      refused_last c.args.key.now c.args.n None low.none_refused high.none_refused (sym (ap first_refusal (λ j. keys_of_vectors c.args.key.now (cells j) (vectors j))) ∙ done.0),
      ap (λ l. Many l) (done.1 ∙ (λ j. map (λ v. carried_of c.args.key.now (cells j) v) (vectors j))),
      asked_every c.args.key.now c.args.n g.F.Forcer.may_force g.F.Forcer.forces c.args.forcer.now c.ask_degree.new.forcer c.ask_degree-2.new.forcer c.carry_all.new.forcer low.asked high.asked (subst (λ ks. Asked g.F.Forcer.forces c.ask_degree-2.new.forcer ks c.carry_all.new.forcer) (λ j. keys_of_vectors c.args.key.now (cells j) (vectors j)) done.2),
    )
