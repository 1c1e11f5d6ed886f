use Rattle.std.proofs.Common.{◌++◌, length, sym, ◌∙◌, ap, subst}
use Rattle.std.specs.List.Sorted.{IsStrictlySortedBy}
use Rattle.fp_field.specs.Field.{number}
use Rattle.fp_field.specs.Normal.{normal}
use Rattle.cells.specs.Order.{cell_cmp}
use Rattle.cells.specs.Small.{small_cmp}
use Rattle.term_lang.specs.SpaceOf.{space_of}
use Rattle.homology_rules.specs.Asking.{first_refusal, up_to_refusal, MayForceEach, AskedFirst, EachAnswered}
use Rattle.homology_rules.specs.CycleVectors.{coordinates_over}
use Rattle.homology_rules.specs.Vectors.{keys_of_vector, carried_of, IsCarried}
use Rattle.homology_rules.proofs.Through.{whole-through}
use Rattle.session_core.specs.Divisions.{class_over, filling_over}
use Rattle.session_core.specs.KeyedParts.{keys_of_filling}
use Rattle.session_core.proofs.FillSteps.{low-has, high-has, low-cells, high-cells, low-chains, high-chains, low-count, high-count, low-small, high-small}
use Rattle.session_core.proofs.filling.fill.Goals as goal

pub small_cells-requires : goal.small_cells-requires
small_cells-requires g c = low-has c.args.key.now c.args.n g.F.Forcer.forces c.args.degrees.now c.requires.degrees c.get.result.now c.get.ensures

pub divide-requires-clause-rising : goal.divide-requires-clause-rising
divide-requires-clause-rising g c = subst (IsStrictlySortedBy small_cmp) (sym (low-cells c.args.key.now c.args.n g.F.Forcer.forces c.args.degrees.now c.requires.degrees c.get.result.now c.small_cells.result.now c.as_slice-cells.result.now c.get.ensures c.small_cells.ensures c.as_slice-cells.ensures)) c.requires.rising

pub divide-requires-clause-lengths : goal.divide-requires-clause-lengths
divide-requires-clause-lengths g c = low-count c.args.key.now c.args.n g.F.Forcer.forces c.args.degrees.now c.requires.degrees c.deref-chains.result.now c.deref-chains.ensures.value ∙ ap length (sym (low-cells c.args.key.now c.args.n g.F.Forcer.forces c.args.degrees.now c.requires.degrees c.get.result.now c.small_cells.result.now c.as_slice-cells.result.now c.get.ensures c.small_cells.ensures c.as_slice-cells.ensures))

pub divide-requires-clause-chains : goal.divide-requires-clause-chains
divide-requires-clause-chains g c = low-small c.args.key.now c.args.n g.F.Forcer.forces c.args.degrees.now c.requires.degrees c.deref-chains.result.now c.deref-chains.ensures.value

pub divide-requires-clause-next : goal.divide-requires-clause-next
divide-requires-clause-next g c = high-small c.args.key.now c.args.n g.F.Forcer.forces c.args.degrees.now c.requires.degrees c.deref-next_chains.result.now c.deref-next_chains.ensures.value

pub small_cells-requires-2 : goal.small_cells-requires-2
small_cells-requires-2 g c = high-has c.args.key.now c.args.n g.F.Forcer.forces c.args.degrees.now c.requires.degrees c.get-2.result.now c.get-2.ensures

pub carry-requires-clause-width : goal.carry-requires-clause-width
carry-requires-clause-width g c =
    c.in_ok-divided.ensures.filling_width ∙ high-count c.args.key.now c.args.n g.F.Forcer.forces c.args.degrees.now c.requires.degrees c.deref-next_chains.result.now c.deref-next_chains.ensures.value ∙ ap length (sym (high-cells c.args.key.now c.args.n g.F.Forcer.forces c.args.degrees.now c.requires.degrees c.get-2.result.now c.small_cells-2.result.now c.as_slice-next_cells.result.now c.get-2.ensures c.small_cells-2.ensures c.as_slice-next_cells.ensures))

pub carry-requires-clause-forcer : goal.carry-requires-clause-forcer
carry-requires-clause-forcer g c = subst (MayForceEach g.F.Forcer.may_force g.F.Forcer.forces c.args.forcer.now) (sym (λ i. keys_of_vector c.args.key.now ((high-cells c.args.key.now c.args.n g.F.Forcer.forces c.args.degrees.now c.requires.degrees c.get-2.result.now c.small_cells-2.result.now c.as_slice-next_cells.result.now c.get-2.ensures c.small_cells-2.ensures c.as_slice-next_cells.ensures) i) ((c.in_ok-divided.ensures.filling (space_of c.args.key.now.term) ∙ (λ i. filling_over small_cmp (number c.args.key.now.prime) ((low-cells c.args.key.now c.args.n g.F.Forcer.forces c.args.degrees.now c.requires.degrees c.get.result.now c.small_cells.result.now c.as_slice-cells.result.now c.get.ensures c.small_cells.ensures c.as_slice-cells.ensures) i) ((low-chains c.args.key.now c.args.n g.F.Forcer.forces c.args.degrees.now c.requires.degrees c.deref-chains.result.now c.deref-chains.ensures.value) i) ((high-chains c.args.key.now c.args.n g.F.Forcer.forces c.args.degrees.now c.requires.degrees c.deref-next_chains.result.now c.deref-next_chains.ensures.value) i) (space_of c.args.key.now.term) (coordinates_over small_cmp (number c.args.key.now.prime) ((low-cells c.args.key.now c.args.n g.F.Forcer.forces c.args.degrees.now c.requires.degrees c.get.result.now c.small_cells.result.now c.as_slice-cells.result.now c.get.ensures c.small_cells.ensures c.as_slice-cells.ensures) i) c.args.images.image.terms))) i))) c.requires.forcer

pub returns-in_err-over-clause-asked : goal.returns-in_err-over-clause-asked
returns-in_err-over-clause-asked g c = subst (λ ks. AskedFirst g.F.Forcer.forces ks c.args.forcer.now c.carry.new.forcer) (λ i. keys_of_vector c.args.key.now ((high-cells c.args.key.now c.args.n g.F.Forcer.forces c.args.degrees.now c.requires.degrees c.get-2.result.now c.small_cells-2.result.now c.as_slice-next_cells.result.now c.get-2.ensures c.small_cells-2.ensures c.as_slice-next_cells.ensures) i) ((c.in_ok-divided.ensures.filling (space_of c.args.key.now.term) ∙ (λ i. filling_over small_cmp (number c.args.key.now.prime) ((low-cells c.args.key.now c.args.n g.F.Forcer.forces c.args.degrees.now c.requires.degrees c.get.result.now c.small_cells.result.now c.as_slice-cells.result.now c.get.ensures c.small_cells.ensures c.as_slice-cells.ensures) i) ((low-chains c.args.key.now c.args.n g.F.Forcer.forces c.args.degrees.now c.requires.degrees c.deref-chains.result.now c.deref-chains.ensures.value) i) ((high-chains c.args.key.now c.args.n g.F.Forcer.forces c.args.degrees.now c.requires.degrees c.deref-next_chains.result.now c.deref-next_chains.ensures.value) i) (space_of c.args.key.now.term) (coordinates_over small_cmp (number c.args.key.now.prime) ((low-cells c.args.key.now c.args.n g.F.Forcer.forces c.args.degrees.now c.requires.degrees c.get.result.now c.small_cells.result.now c.as_slice-cells.result.now c.get.ensures c.small_cells.ensures c.as_slice-cells.ensures) i) c.args.images.image.terms))) i)) c.carry.ensures.asked

pub returns-in-Over-clause-asked : goal.returns-in-Over-clause-asked
returns-in-Over-clause-asked g c = subst (λ ks. AskedFirst g.F.Forcer.forces ks c.args.forcer.now c.carry.new.forcer) (λ i. keys_of_vector c.args.key.now ((high-cells c.args.key.now c.args.n g.F.Forcer.forces c.args.degrees.now c.requires.degrees c.get-2.result.now c.small_cells-2.result.now c.as_slice-next_cells.result.now c.get-2.ensures c.small_cells-2.ensures c.as_slice-next_cells.ensures) i) ((c.in_ok-divided.ensures.filling (space_of c.args.key.now.term) ∙ (λ i. filling_over small_cmp (number c.args.key.now.prime) ((low-cells c.args.key.now c.args.n g.F.Forcer.forces c.args.degrees.now c.requires.degrees c.get.result.now c.small_cells.result.now c.as_slice-cells.result.now c.get.ensures c.small_cells.ensures c.as_slice-cells.ensures) i) ((low-chains c.args.key.now c.args.n g.F.Forcer.forces c.args.degrees.now c.requires.degrees c.deref-chains.result.now c.deref-chains.ensures.value) i) ((high-chains c.args.key.now c.args.n g.F.Forcer.forces c.args.degrees.now c.requires.degrees c.deref-next_chains.result.now c.deref-next_chains.ensures.value) i) (space_of c.args.key.now.term) (coordinates_over small_cmp (number c.args.key.now.prime) ((low-cells c.args.key.now c.args.n g.F.Forcer.forces c.args.degrees.now c.requires.degrees c.get.result.now c.small_cells.result.now c.as_slice-cells.result.now c.get.ensures c.small_cells.ensures c.as_slice-cells.ensures) i) c.args.images.image.terms))) i)) c.carry.ensures.asked

pub returns-in-Over-clause-answer : goal.returns-in-Over-clause-answer
returns-in-Over-clause-answer g c = (sym (ap first_refusal (λ i. keys_of_vector c.args.key.now ((high-cells c.args.key.now c.args.n g.F.Forcer.forces c.args.degrees.now c.requires.degrees c.get-2.result.now c.small_cells-2.result.now c.as_slice-next_cells.result.now c.get-2.ensures c.small_cells-2.ensures c.as_slice-next_cells.ensures) i) ((c.in_ok-divided.ensures.filling (space_of c.args.key.now.term) ∙ (λ i. filling_over small_cmp (number c.args.key.now.prime) ((low-cells c.args.key.now c.args.n g.F.Forcer.forces c.args.degrees.now c.requires.degrees c.get.result.now c.small_cells.result.now c.as_slice-cells.result.now c.get.ensures c.small_cells.ensures c.as_slice-cells.ensures) i) ((low-chains c.args.key.now c.args.n g.F.Forcer.forces c.args.degrees.now c.requires.degrees c.deref-chains.result.now c.deref-chains.ensures.value) i) ((high-chains c.args.key.now c.args.n g.F.Forcer.forces c.args.degrees.now c.requires.degrees c.deref-next_chains.result.now c.deref-next_chains.ensures.value) i) (space_of c.args.key.now.term) (coordinates_over small_cmp (number c.args.key.now.prime) ((low-cells c.args.key.now c.args.n g.F.Forcer.forces c.args.degrees.now c.requires.degrees c.get.result.now c.small_cells.result.now c.as_slice-cells.result.now c.get.ensures c.small_cells.ensures c.as_slice-cells.ensures) i) c.args.images.image.terms))) i))) ∙ (subst (λ x. IsCarried g.F.Forcer.forces (keys_of_vector c.args.key.now c.as_slice-next_cells.result.now c.in_ok-divided.divided.filling.values) (carried_of c.args.key.now c.as_slice-next_cells.result.now c.in_ok-divided.divided.filling.values) c.args.forcer.now c.carry.new.forcer x) c.in-Over.is c.in_ok-over.ensures.carried), (subst (λ ks. EachAnswered g.F.Forcer.forces c.args.forcer.now (up_to_refusal ks) c.carry.new.forcer) (λ i. keys_of_vector c.args.key.now ((high-cells c.args.key.now c.args.n g.F.Forcer.forces c.args.degrees.now c.requires.degrees c.get-2.result.now c.small_cells-2.result.now c.as_slice-next_cells.result.now c.get-2.ensures c.small_cells-2.ensures c.as_slice-next_cells.ensures) i) ((c.in_ok-divided.ensures.filling (space_of c.args.key.now.term) ∙ (λ i. filling_over small_cmp (number c.args.key.now.prime) ((low-cells c.args.key.now c.args.n g.F.Forcer.forces c.args.degrees.now c.requires.degrees c.get.result.now c.small_cells.result.now c.as_slice-cells.result.now c.get.ensures c.small_cells.ensures c.as_slice-cells.ensures) i) ((low-chains c.args.key.now c.args.n g.F.Forcer.forces c.args.degrees.now c.requires.degrees c.deref-chains.result.now c.deref-chains.ensures.value) i) ((high-chains c.args.key.now c.args.n g.F.Forcer.forces c.args.degrees.now c.requires.degrees c.deref-next_chains.result.now c.deref-next_chains.ensures.value) i) (space_of c.args.key.now.term) (coordinates_over small_cmp (number c.args.key.now.prime) ((low-cells c.args.key.now c.args.n g.F.Forcer.forces c.args.degrees.now c.requires.degrees c.get.result.now c.small_cells.result.now c.as_slice-cells.result.now c.get.ensures c.small_cells.ensures c.as_slice-cells.ensures) i) c.args.images.image.terms))) i)) c.in_ok-over.ensures.through))

pub returns-in_err-rest-in-Sum-clause-asked : goal.returns-in_err-rest-in-Sum-clause-asked
returns-in_err-rest-in-Sum-clause-asked g c = subst (λ ks. AskedFirst g.F.Forcer.forces ks c.args.forcer.now c.carry.new.forcer) (λ i. keys_of_vector c.args.key.now ((high-cells c.args.key.now c.args.n g.F.Forcer.forces c.args.degrees.now c.requires.degrees c.get-2.result.now c.small_cells-2.result.now c.as_slice-next_cells.result.now c.get-2.ensures c.small_cells-2.ensures c.as_slice-next_cells.ensures) i) ((c.in_ok-divided.ensures.filling (space_of c.args.key.now.term) ∙ (λ i. filling_over small_cmp (number c.args.key.now.prime) ((low-cells c.args.key.now c.args.n g.F.Forcer.forces c.args.degrees.now c.requires.degrees c.get.result.now c.small_cells.result.now c.as_slice-cells.result.now c.get.ensures c.small_cells.ensures c.as_slice-cells.ensures) i) ((low-chains c.args.key.now c.args.n g.F.Forcer.forces c.args.degrees.now c.requires.degrees c.deref-chains.result.now c.deref-chains.ensures.value) i) ((high-chains c.args.key.now c.args.n g.F.Forcer.forces c.args.degrees.now c.requires.degrees c.deref-next_chains.result.now c.deref-next_chains.ensures.value) i) (space_of c.args.key.now.term) (coordinates_over small_cmp (number c.args.key.now.prime) ((low-cells c.args.key.now c.args.n g.F.Forcer.forces c.args.degrees.now c.requires.degrees c.get.result.now c.small_cells.result.now c.as_slice-cells.result.now c.get.ensures c.small_cells.ensures c.as_slice-cells.ensures) i) c.args.images.image.terms))) i)) c.carry.ensures.asked

pub returns-clause-asked : goal.returns-clause-asked
returns-clause-asked g c = subst (λ ks. AskedFirst g.F.Forcer.forces ks c.args.forcer.now c.carry.new.forcer) (λ i. keys_of_vector c.args.key.now ((high-cells c.args.key.now c.args.n g.F.Forcer.forces c.args.degrees.now c.requires.degrees c.get-2.result.now c.small_cells-2.result.now c.as_slice-next_cells.result.now c.get-2.ensures c.small_cells-2.ensures c.as_slice-next_cells.ensures) i) ((c.in_ok-divided.ensures.filling (space_of c.args.key.now.term) ∙ (λ i. filling_over small_cmp (number c.args.key.now.prime) ((low-cells c.args.key.now c.args.n g.F.Forcer.forces c.args.degrees.now c.requires.degrees c.get.result.now c.small_cells.result.now c.as_slice-cells.result.now c.get.ensures c.small_cells.ensures c.as_slice-cells.ensures) i) ((low-chains c.args.key.now c.args.n g.F.Forcer.forces c.args.degrees.now c.requires.degrees c.deref-chains.result.now c.deref-chains.ensures.value) i) ((high-chains c.args.key.now c.args.n g.F.Forcer.forces c.args.degrees.now c.requires.degrees c.deref-next_chains.result.now c.deref-next_chains.ensures.value) i) (space_of c.args.key.now.term) (coordinates_over small_cmp (number c.args.key.now.prime) ((low-cells c.args.key.now c.args.n g.F.Forcer.forces c.args.degrees.now c.requires.degrees c.get.result.now c.small_cells.result.now c.as_slice-cells.result.now c.get.ensures c.small_cells.ensures c.as_slice-cells.ensures) i) c.args.images.image.terms))) i)) c.carry.ensures.asked

pub returns-clause-answer : goal.returns-clause-answer
returns-clause-answer g c =
    let done = (subst (λ x. IsCarried g.F.Forcer.forces (keys_of_vector c.args.key.now c.as_slice-next_cells.result.now c.in_ok-divided.divided.filling.values) (carried_of c.args.key.now c.as_slice-next_cells.result.now c.in_ok-divided.divided.filling.values) c.args.forcer.now c.carry.new.forcer x) c.in-Sum.is c.in_ok-over.ensures.carried) in
    let none = sym (ap first_refusal (λ i. keys_of_vector c.args.key.now ((high-cells c.args.key.now c.args.n g.F.Forcer.forces c.args.degrees.now c.requires.degrees c.get-2.result.now c.small_cells-2.result.now c.as_slice-next_cells.result.now c.get-2.ensures c.small_cells-2.ensures c.as_slice-next_cells.ensures) i) ((c.in_ok-divided.ensures.filling (space_of c.args.key.now.term) ∙ (λ i. filling_over small_cmp (number c.args.key.now.prime) ((low-cells c.args.key.now c.args.n g.F.Forcer.forces c.args.degrees.now c.requires.degrees c.get.result.now c.small_cells.result.now c.as_slice-cells.result.now c.get.ensures c.small_cells.ensures c.as_slice-cells.ensures) i) ((low-chains c.args.key.now c.args.n g.F.Forcer.forces c.args.degrees.now c.requires.degrees c.deref-chains.result.now c.deref-chains.ensures.value) i) ((high-chains c.args.key.now c.args.n g.F.Forcer.forces c.args.degrees.now c.requires.degrees c.deref-next_chains.result.now c.deref-next_chains.ensures.value) i) (space_of c.args.key.now.term) (coordinates_over small_cmp (number c.args.key.now.prime) ((low-cells c.args.key.now c.args.n g.F.Forcer.forces c.args.degrees.now c.requires.degrees c.get.result.now c.small_cells.result.now c.as_slice-cells.result.now c.get.ensures c.small_cells.ensures c.as_slice-cells.ensures) i) c.args.images.image.terms))) i))) ∙ done.0 in
    let chain = done.1 ∙ (λ i. carried_of c.args.key.now ((high-cells c.args.key.now c.args.n g.F.Forcer.forces c.args.degrees.now c.requires.degrees c.get-2.result.now c.small_cells-2.result.now c.as_slice-next_cells.result.now c.get-2.ensures c.small_cells-2.ensures c.as_slice-next_cells.ensures) i) ((c.in_ok-divided.ensures.filling (space_of c.args.key.now.term) ∙ (λ i. filling_over small_cmp (number c.args.key.now.prime) ((low-cells c.args.key.now c.args.n g.F.Forcer.forces c.args.degrees.now c.requires.degrees c.get.result.now c.small_cells.result.now c.as_slice-cells.result.now c.get.ensures c.small_cells.ensures c.as_slice-cells.ensures) i) ((low-chains c.args.key.now c.args.n g.F.Forcer.forces c.args.degrees.now c.requires.degrees c.deref-chains.result.now c.deref-chains.ensures.value) i) ((high-chains c.args.key.now c.args.n g.F.Forcer.forces c.args.degrees.now c.requires.degrees c.deref-next_chains.result.now c.deref-next_chains.ensures.value) i) (space_of c.args.key.now.term) (coordinates_over small_cmp (number c.args.key.now.prime) ((low-cells c.args.key.now c.args.n g.F.Forcer.forces c.args.degrees.now c.requires.degrees c.get.result.now c.small_cells.result.now c.as_slice-cells.result.now c.get.ensures c.small_cells.ensures c.as_slice-cells.ensures) i) c.args.images.image.terms))) i)) in (
      none,
      record {
        prime = c.in_ok-divided.ensures.class_prime;
        values = c.in_ok-divided.ensures.class ∙ (λ i. class_over small_cmp (number c.args.key.now.prime) ((low-cells c.args.key.now c.args.n g.F.Forcer.forces c.args.degrees.now c.requires.degrees c.get.result.now c.small_cells.result.now c.as_slice-cells.result.now c.get.ensures c.small_cells.ensures c.as_slice-cells.ensures) i) ((low-chains c.args.key.now c.args.n g.F.Forcer.forces c.args.degrees.now c.requires.degrees c.deref-chains.result.now c.deref-chains.ensures.value) i) ((high-chains c.args.key.now c.args.n g.F.Forcer.forces c.args.degrees.now c.requires.degrees c.deref-next_chains.result.now c.deref-next_chains.ensures.value) i) (coordinates_over small_cmp (number c.args.key.now.prime) ((low-cells c.args.key.now c.args.n g.F.Forcer.forces c.args.degrees.now c.requires.degrees c.get.result.now c.small_cells.result.now c.as_slice-cells.result.now c.get.ensures c.small_cells.ensures c.as_slice-cells.ensures) i) c.args.images.image.terms));
        rest = λ i. record {
          prime = c.in_ok-rest-in-Sum.ensures.prime i;
          terms = (c.in_ok-rest-in-Sum.ensures.terms ∙ (λ j. normal cell_cmp (number c.args.key.now.prime) (c.args.images.homotopy.terms ++ (chain j).terms))) i;
        };
      },
      whole-through g.F.Forcer.forces (keys_of_filling c.args.key.now c.args.n c.args.images.image.terms) c.args.forcer.now c.carry.new.forcer none (subst (λ ks. EachAnswered g.F.Forcer.forces c.args.forcer.now (up_to_refusal ks) c.carry.new.forcer) (λ i. keys_of_vector c.args.key.now ((high-cells c.args.key.now c.args.n g.F.Forcer.forces c.args.degrees.now c.requires.degrees c.get-2.result.now c.small_cells-2.result.now c.as_slice-next_cells.result.now c.get-2.ensures c.small_cells-2.ensures c.as_slice-next_cells.ensures) i) ((c.in_ok-divided.ensures.filling (space_of c.args.key.now.term) ∙ (λ i. filling_over small_cmp (number c.args.key.now.prime) ((low-cells c.args.key.now c.args.n g.F.Forcer.forces c.args.degrees.now c.requires.degrees c.get.result.now c.small_cells.result.now c.as_slice-cells.result.now c.get.ensures c.small_cells.ensures c.as_slice-cells.ensures) i) ((low-chains c.args.key.now c.args.n g.F.Forcer.forces c.args.degrees.now c.requires.degrees c.deref-chains.result.now c.deref-chains.ensures.value) i) ((high-chains c.args.key.now c.args.n g.F.Forcer.forces c.args.degrees.now c.requires.degrees c.deref-next_chains.result.now c.deref-next_chains.ensures.value) i) (space_of c.args.key.now.term) (coordinates_over small_cmp (number c.args.key.now.prime) ((low-cells c.args.key.now c.args.n g.F.Forcer.forces c.args.degrees.now c.requires.degrees c.get.result.now c.small_cells.result.now c.as_slice-cells.result.now c.get.ensures c.small_cells.ensures c.as_slice-cells.ensures) i) c.args.images.image.terms))) i)) c.in_ok-over.ensures.through),
    )
