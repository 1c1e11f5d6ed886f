use Rattle.std.proofs.Common.{◌≡◌, ◌+◌, length, sym, ◌∙◌, ap, subst}
use Rattle.std.specs.Prelude.{IfSome}
use Rattle.std.specs.List.Sorted.{IsStrictlySortedBy}
use Rattle.std.proofs.lemmas.List.Elements.{All-same}
use Rattle.fp_field.specs.Field.{number}
use Rattle.cells.specs.Small.{small_cmp}
use Rattle.homology_rules.specs.Held.{HasSmallOver}
use Rattle.homology_rules.specs.CycleVectors.{small_chains}
use Rattle.homology_rules.proofs.InDegrees.{all_small, chains_found, chains_count, cells_found, has_cells}
use Rattle.session_core.specs.Along.{ComesAlong}
use Rattle.session_core.specs.Dimensions.{keys_of_dimension, nullity_over, dimension_over, AreDegrees}
use Rattle.session_core.proofs.keyed_dimensions.count_dimension.Goals as goal

pub small_cells-requires : goal.small_cells-requires
small_cells-requires g c =
    let two = (subst (λ x. ComesAlong g.F.Forcer.forces (keys_of_dimension c.args.key.now c.args.n) (λ d. AreDegrees g.F.Forcer.forces c.args.key.now c.args.n d) c.args.forcer.now c.ask_two_degrees.new.forcer x) c.in-Told.is c.in_ok-over.ensures.answer).1 in
    has_cells c.args.key.now g.F.Forcer.forces c.args.n two.first two.middle c.in-Told.degrees.cells c.in-Told.degrees.chains.items two.low c.get.result.now c.get.ensures

pub count_degree-requires-clause-rising : goal.count_degree-requires-clause-rising
count_degree-requires-clause-rising g c =
    let two = (subst (λ x. ComesAlong g.F.Forcer.forces (keys_of_dimension c.args.key.now c.args.n) (λ d. AreDegrees g.F.Forcer.forces c.args.key.now c.args.n d) c.args.forcer.now c.ask_two_degrees.new.forcer x) c.in-Told.is c.in_ok-over.ensures.answer).1 in
    let cells = cells_found c.args.key.now g.F.Forcer.forces c.args.n two.first two.middle c.in-Told.degrees.cells c.in-Told.degrees.chains.items two.low c.get.result.now c.small_cells.result.now c.as_slice-cells.result.now c.get.ensures c.small_cells.ensures c.as_slice-cells.ensures in
    subst (IsStrictlySortedBy small_cmp) (sym cells) c.requires.rising

pub count_degree-requires-clause-lengths : goal.count_degree-requires-clause-lengths
count_degree-requires-clause-lengths g c =
    let two = (subst (λ x. ComesAlong g.F.Forcer.forces (keys_of_dimension c.args.key.now c.args.n) (λ d. AreDegrees g.F.Forcer.forces c.args.key.now c.args.n d) c.args.forcer.now c.ask_two_degrees.new.forcer x) c.in-Told.is c.in_ok-over.ensures.answer).1 in
    let cells = cells_found c.args.key.now g.F.Forcer.forces c.args.n two.first two.middle c.in-Told.degrees.cells c.in-Told.degrees.chains.items two.low c.get.result.now c.small_cells.result.now c.as_slice-cells.result.now c.get.ensures c.small_cells.ensures c.as_slice-cells.ensures in
    ap length c.deref.ensures.value ∙ chains_count c.args.key.now g.F.Forcer.forces c.args.n two.first two.middle c.in-Told.degrees.cells c.in-Told.degrees.chains.items two.low ∙ ap length (sym cells)

pub count_degree-requires-clause-chains : goal.count_degree-requires-clause-chains
count_degree-requires-clause-chains g c =
    let two = (subst (λ x. ComesAlong g.F.Forcer.forces (keys_of_dimension c.args.key.now c.args.n) (λ d. AreDegrees g.F.Forcer.forces c.args.key.now c.args.n d) c.args.forcer.now c.ask_two_degrees.new.forcer x) c.in-Told.is c.in_ok-over.ensures.answer).1 in
    All-same (λ v. HasSmallOver c.args.key.now.prime v.outcome) _ _ c.deref.ensures.value (all_small c.args.key.now g.F.Forcer.forces c.args.n two.first two.middle c.in-Told.degrees.cells c.in-Told.degrees.chains.items two.low)

pub count_degree-requires-clause-next : goal.count_degree-requires-clause-next
count_degree-requires-clause-next g c =
    let two = (subst (λ x. ComesAlong g.F.Forcer.forces (keys_of_dimension c.args.key.now c.args.n) (λ d. AreDegrees g.F.Forcer.forces c.args.key.now c.args.n d) c.args.forcer.now c.ask_two_degrees.new.forcer x) c.in-Told.is c.in_ok-over.ensures.answer).1 in
    All-same (λ v. HasSmallOver c.args.key.now.prime v.outcome) _ _ c.deref-2.ensures.value (all_small c.args.key.now g.F.Forcer.forces (c.args.n + 1) two.middle two.last c.in-Told.degrees.next_cells c.in-Told.degrees.next_chains.items two.high)

pub count_degree-requires-clause-known : goal.count_degree-requires-clause-known
count_degree-requires-clause-known g c =
    let two = (subst (λ x. ComesAlong g.F.Forcer.forces (keys_of_dimension c.args.key.now c.args.n) (λ d. AreDegrees g.F.Forcer.forces c.args.key.now c.args.n d) c.args.forcer.now c.ask_two_degrees.new.forcer x) c.in-Told.is c.in_ok-over.ensures.answer).1 in
    subst (λ m. IfSome c.args.known (λ n. n ≡ m))
    (sym ((λ i. nullity_over small_cmp (number c.args.key.now.prime)
    ((ap length c.deref.ensures.value ∙ chains_count c.args.key.now g.F.Forcer.forces c.args.n two.first two.middle c.in-Told.degrees.cells c.in-Told.degrees.chains.items two.low) i)
    ((ap small_chains c.deref.ensures.value ∙ chains_found c.args.key.now g.F.Forcer.forces c.args.n two.first two.middle c.in-Told.degrees.cells c.in-Told.degrees.chains.items two.low) i))))
    c.requires.known

pub returns-clause-answer : goal.returns-clause-answer
returns-clause-answer g c =
    let told = (subst (λ x. ComesAlong g.F.Forcer.forces (keys_of_dimension c.args.key.now c.args.n) (λ d. AreDegrees g.F.Forcer.forces c.args.key.now c.args.n d) c.args.forcer.now c.ask_two_degrees.new.forcer x) c.in-Told.is c.in_ok-over.ensures.answer) in
    let two = told.1 in
    let cells = cells_found c.args.key.now g.F.Forcer.forces c.args.n two.first two.middle c.in-Told.degrees.cells c.in-Told.degrees.chains.items two.low c.get.result.now c.small_cells.result.now c.as_slice-cells.result.now c.get.ensures c.small_cells.ensures c.as_slice-cells.ensures in
    let chains = ap small_chains c.deref.ensures.value ∙ chains_found c.args.key.now g.F.Forcer.forces c.args.n two.first two.middle c.in-Told.degrees.cells c.in-Told.degrees.chains.items two.low in
    let next = ap small_chains c.deref-2.ensures.value ∙ chains_found c.args.key.now g.F.Forcer.forces (c.args.n + 1) two.middle two.last c.in-Told.degrees.next_cells c.in-Told.degrees.next_chains.items two.high in
    let count = ap length c.deref-2.ensures.value ∙ chains_count c.args.key.now g.F.Forcer.forces (c.args.n + 1) two.middle two.last c.in-Told.degrees.next_cells c.in-Told.degrees.next_chains.items two.high in (
      told.0,
      (
        c.in_ok-counted.ensures.dimension ∙ (λ i. dimension_over small_cmp (number c.args.key.now.prime) (cells i) (chains i) (next i)),
        subst (λ m. IfSome c.in_ok-counted.counted.next (λ n. n ≡ m)) (λ i. nullity_over small_cmp (number c.args.key.now.prime) (count i) (next i)) c.in_ok-counted.ensures.next,
      ),
      told.2,
    )
