use Rattle.std.proofs.Common.{◌<◌, ◌-◌, ◌+◌, ◌%◌, inl, inr, set, get_or, add-one, length, refl, sym, ◌∙◌, ap, arith}
use Rattle.std.proofs.lemmas.List.Elements.{All-get_or}
use Rattle.fp_field.specs.declared.element.Fp.{Fp}
use Rattle.fp_field.specs.Field.{number}
use Rattle.fp_field.proofs.Primes.{number_pos}
use Rattle.chain_core.specs.Formal.{numbers}
use Rattle.echelons.specs.Echelon.{at_place}
use Rattle.echelons.proofs.Vectors.{below-at}
use Rattle.elim_fp.specs.Rows.{dense}
use Rattle.elim_fp.proofs.Entries.{added-none, added-past, added-more, added-all}
use Rattle.elim_fp.proofs.parts.with_part.Goals.{then-from-place+then-place-width+in_ok-add_entry, else-from-place, else-from-place-via-then-from-place+else-place-width, else-from-place-via-else-from-place}
use Rattle.elim_fp.proofs.parts.with_part.Goals as goal

pub loop-place-init : goal.loop-place-init
loop-place-init c = record {
  prime = refl;
  wide = refl;
  entries = added-none (number c.args.row.prime) c.terms-place-items.result.now c.width-width.result (length c.args.row.values) c.args.from c.args.row.values
      (below-at (number c.args.row.prime) (number_pos c.args.row.prime) (length c.args.row.values) c.args.row.values c.requires.vector);
}

pub add_entry-requires-clause-place : goal.add_entry-requires-clause-place
add_entry-requires-clause-place c = omega (arith, c.if-from-place.true, c.if-place-width.true, c.width-width.ensures.width, c.requires.fits, c.loop-place.invariant.wide)

pub add_entry-requires-clause-element : goal.add_entry-requires-clause-element
add_entry-requires-clause-element c =
    rw (c.loop-place.invariant.prime, ← c.requires.prime) (All-get_or (λ t. t.1.value < number c.args.other.now.prime) c.terms-place-items.result.now c.loop-place.place-index (0, record { value = 0 }) c.loop-place-test.true c.terms-place-items.ensures.elements)

pub loop-place-preserved : goal.loop-place-preserved
loop-place-preserved c =
    let p = number c.args.row.prime in
    let xs = c.terms-place-items.result.now in
    let w = c.width-width.result in
    let n = length c.args.row.values in
    let none : Fp = record { value = 0 } in
    let i = c.loop-place.place-index in
    let x = get_or xs i (0, none) in
    elim c.if-from-place.branch [
      | then-from-place+then-place-width+in_ok-add_entry u ↦ record {
        prime = rw u.sum-is (u.in_ok-add_entry.ensures.prime ∙ c.loop-place.invariant.prime);
        wide = rw u.sum-is (u.in_ok-add_entry.ensures.width ∙ c.loop-place.invariant.wide);
        entries = rw (u.sum-is, add-one) (added-more p xs w n c.args.from c.args.row.values i (0, none) x c.loop-place.sum.values u.add_entry.new.self.values c.loop-place-test.true refl u.if-from-place.true u.if-place-width.true c.loop-place.invariant.wide
            (omega (arith, u.if-from-place.true, u.if-place-width.true, c.width-width.ensures.width, c.requires.fits))
            (u.in_ok-add_entry.ensures.entry ∙ ap (λ q. set c.loop-place.sum.values (x.0 - c.args.from) ((at_place c.loop-place.sum.values (x.0 - c.args.from) + x.1.value) % number q)) c.loop-place.invariant.prime) c.loop-place.invariant.entries);
      }
      | else-from-place u ↦ record {
        prime = rw u.sum-is c.loop-place.invariant.prime;
        wide = rw u.sum-is c.loop-place.invariant.wide;
        entries = rw (u.sum-is, add-one) (added-past p xs w n c.args.from c.args.row.values i (0, none) x c.loop-place.sum.values c.loop-place-test.true refl
            (elim u.else-from-place.branch [
              | else-from-place-via-then-from-place+else-place-width u' ↦ inr u'.if-place-width.false
              | else-from-place-via-else-from-place u' ↦ inl u'.if-from-place.false
            ]) c.loop-place.invariant.entries);
      }
    ]

pub returns-clause-entries : goal.returns-clause-entries
returns-clause-entries c =
    added-all (number c.args.row.prime) c.terms-place-items.result.now c.width-width.result (length c.args.row.values) c.args.from c.args.row.values c.loop-place.place-index c.loop-place.sum.values c.args.other.now.values
    c.loop-place-test.false
    (c.terms-place-items.ensures.values ∙ (λ i. dense (number (c.requires.prime i)) (sym c.width-width.ensures.width i) (numbers c.terms-place-items.result.now))) c.loop-place.invariant.entries

pub returns-clause-prime : goal.returns-clause-prime
returns-clause-prime c = c.loop-place.invariant.prime

pub returns-clause-width : goal.returns-clause-width
returns-clause-width c = c.loop-place.invariant.wide
