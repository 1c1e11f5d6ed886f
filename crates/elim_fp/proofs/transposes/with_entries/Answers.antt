use Rattle.std.proofs.Common.{◌≡◌, ◌<◌, ◌+◌, ◌%◌, inr, set, get_or, add-one, length, refl, sym, ◌∙◌, ap, subst, arith}
use Rattle.std.proofs.lemmas.List.{length-set, get_or-set_other}
use Rattle.std.proofs.lemmas.List.Elements.{All-get_or, All-set}
use Rattle.fp_field.specs.declared.element.Fp.{Fp}
use Rattle.fp_field.specs.Field.{number}
use Rattle.chain_core.specs.Formal.{numbers}
use Rattle.echelons.specs.Echelon.{at_place}
use Rattle.echelons.proofs.Columns.{column}
use Rattle.elim_fp.specs.Rows.{dense, vectors_of, IsRow}
use Rattle.elim_fp.proofs.Entries.{added-none, added-past, added-more, added-all}
use Rattle.elim_fp.proofs.Turning.{column-long, column-kept, column-small, row-set, more-here}
use Rattle.elim_fp.proofs.transposes.with_entries.Goals.{then-at-width+in_ok-add_entry, else-at-width}
use Rattle.elim_fp.proofs.transposes.with_entries.Goals as goal

pub loop-at-init : goal.loop-at-init
loop-at-init c = record {
  count = refl;
  each = c.requires.each;
  here = added-none (number c.args.row.now.prime) c.terms-at-items.result.now c.width-width.result (length c.args.rows.items) 0 (column (vectors_of c.args.rows.items) c.args.place)
      (column-small c.args.row.now.prime c.args.height c.args.rows.items c.args.place c.requires.each);
  others = λ i d. refl;
}

pub loop-at-preserved : goal.loop-at-preserved
loop-at-preserved c =
    let q = c.args.row.now.prime in
    let xs = c.terms-at-items.result.now in
    let w = c.width-width.result in
    let n = length c.args.rows.items in
    let none : Fp = record { value = 0 } in
    let i = c.loop-at.at-index in
    let t = get_or xs i (0, none) in
    let cur = c.loop-at.sums.items in
    elim c.if-at-width.branch [
      | then-at-width+in_ok-add_entry u ↦
          let within : t.0 < length c.loop-at.sums.items = omega (arith, u.if-at-width.true, c.width-width.ensures.width, c.requires.count, c.loop-at.invariant.count) in
          let x = u.index_mut.result.now in
          let r = u.add_entry.new.self in
          let row = subst (IsRow q c.args.height) (sym u.index_mut.ensures.value) (All-get_or (IsRow q c.args.height) cur t.0 x within c.loop-at.invariant.each) in
          let wide : length u.index_mut.result.now.values ≡ c.args.height = row.vector.wide in
          let deep : c.args.place < length u.index_mut.result.now.values = subst (λ k. c.args.place < k) (sym wide) c.requires.place in
          let entry = u.in_ok-add_entry.ensures.entry ∙ ap (λ s. set x.values c.args.place ((at_place x.values c.args.place + t.1.value) % number s)) row.prime_is in
          record {
            count = rw u.sums-is (length-set cur t.0 r ∙ c.loop-at.invariant.count);
            each = rw u.sums-is (All-set (IsRow q c.args.height) cur t.0 r (row-set q c.args.height c.args.place (at_place x.values c.args.place + t.1.value) x r row u.in_ok-add_entry.ensures.prime entry) c.loop-at.invariant.each);
            here = rw (u.sums-is, add-one) (added-more (number q) xs w n 0 (column (vectors_of c.args.rows.items) c.args.place) i (0, none) t (column (vectors_of cur) c.args.place) (column (vectors_of (set cur t.0 r)) c.args.place)
                c.loop-at-test.true refl (omega arith) u.if-at-width.true (column-long cur c.args.place ∙ c.loop-at.invariant.count)
                (omega (arith, within, c.loop-at.invariant.count)) (more-here (number q) cur t.0 c.args.place t.1.value x r within u.index_mut.ensures.value deep entry) c.loop-at.invariant.here);
            others = rw u.sums-is (λ k d. column-kept cur t.0 r x k within u.index_mut.ensures.value (ap (λ v. at_place v k) entry ∙ get_or-set_other x.values c.args.place k _ 0 d) ∙ c.loop-at.invariant.others k d);
          }
      | else-at-width u ↦ record {
        count = rw u.sums-is c.loop-at.invariant.count;
        each = rw u.sums-is c.loop-at.invariant.each;
        here = rw (u.sums-is, add-one) (added-past (number q) xs w n 0 (column (vectors_of c.args.rows.items) c.args.place) i (0, none) t (column (vectors_of cur) c.args.place) c.loop-at-test.true refl (inr u.if-at-width.false) c.loop-at.invariant.here);
        others = rw u.sums-is c.loop-at.invariant.others;
      }
    ]

pub returns-clause-here : goal.returns-clause-here
returns-clause-here c = λ j l.
    added-all (number c.args.row.now.prime) c.terms-at-items.result.now c.width-width.result (length c.args.rows.items) 0 (column (vectors_of c.args.rows.items) c.args.place) c.loop-at.at-index
    (column (vectors_of c.loop-at.sums.items) c.args.place) c.args.row.now.values c.loop-at-test.false
    (c.terms-at-items.ensures.values ∙ ap (λ k. dense (number c.args.row.now.prime) k (numbers c.terms-at-items.result.now)) (sym c.width-width.ensures.width)) c.loop-at.invariant.here j l
    ∙ ap (λ k. (at_place (column (vectors_of c.args.rows.items) c.args.place) j + at_place c.args.row.now.values k) % number c.args.row.now.prime) (let s : 0 + j ≡ j = omega arith in s)
