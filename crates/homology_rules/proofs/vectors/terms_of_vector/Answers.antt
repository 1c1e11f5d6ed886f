use Rattle.std.proofs.Common.{◌<◌, ℕ, get_or, ◌∙◌, ap}
use Rattle.std.proofs.lemmas.List.Elements.{All-push, All-same}
use Rattle.fp_field.specs.declared.element.Fp.{Fp}
use Rattle.fp_field.specs.Field.{number}
use Rattle.chain_core.specs.Formal.{numbers}
use Rattle.std.proofs.lemmas.List.{take_all}
use Rattle.homology_rules.proofs.Picking.{picks, picked_in, picked_out, picked_all}
use Rattle.homology_rules.proofs.vectors.terms_of_vector.Goals as goal
use Rattle.homology_rules.proofs.vectors.terms_of_vector.Goals.{then-place-cells+in_ok-copy_small+in_ok-push, else-place-cells}

abbrev none : ℕ × Fp
none = (0, record { value = 0 })

pub loop-place-preserved : goal.loop-place-preserved
loop-place-preserved c =
    elim c.if-place-cells.branch [
      | then-place-cells+in_ok-copy_small+in_ok-push w ↦ record {
        terms = picked_in c.args.cells.now c.terms-entries.result.now c.loop-place.place-index none c.loop-place-test.true c.loop-place.terms.items c.loop-place.invariant.terms
            w.index-cells-place.result w.in_ok-copy_small.field-0 c.if-place-cells.terms.items w.if-place-cells.true w.index-cells-place.is w.in_ok-copy_small.ensures
            (ap (λ v. v.items) w.terms-is ∙ w.in_ok-push.ensures.items);
        elements = All-same (λ t. t.1.value < number c.args.vector.now.prime) _ _ (ap (λ v. v.items) w.terms-is ∙ w.in_ok-push.ensures.items)
            (All-push (λ t. t.1.value < number c.args.vector.now.prime) c.loop-place.terms.items
            (w.in_ok-copy_small.field-0, (get_or c.terms-entries.result.now c.loop-place.place-index none).1) c.loop-place.invariant.elements
            (c.terms-entries.ensures.elements c.loop-place.place-index none c.loop-place-test.true));
      }
      | else-place-cells w ↦ record {
        terms = picked_out c.args.cells.now c.terms-entries.result.now c.loop-place.place-index none c.loop-place-test.true c.loop-place.terms.items c.loop-place.invariant.terms
            c.if-place-cells.terms.items w.if-place-cells.false (ap (λ v. v.items) w.terms-is);
        elements = All-same (λ t. t.1.value < number c.args.vector.now.prime) _ _ (ap (λ v. v.items) w.terms-is) c.loop-place.invariant.elements;
      }
    ]

pub returns-clause-terms : goal.returns-clause-terms
returns-clause-terms c =
    c.loop-place.invariant.terms ∙ ap (λ xs. picks 0 c.args.cells.now (numbers xs)) (take_all c.loop-place.place-index c.terms-entries.result.now c.loop-place-test.false)
    ∙ picked_all c.args.vector.now.prime c.args.cells.now (numbers c.terms-entries.result.now) c.args.vector.now.values c.terms-entries.ensures.normal c.requires c.terms-entries.ensures.values
