use Rattle.std.proofs.Common.{◌<◌, inl, inr, get_or, add-one, length, refl, sym, ◌∙◌, ap, subst}
use Rattle.std.proofs.lemmas.List.Elements.{All-get_or}
use Rattle.fp_field.specs.declared.element.Fp.{Fp}
use Rattle.fp_field.specs.Field.{number, minus}
use Rattle.chain_core.specs.Formal.{numbers}
use Rattle.echelons.specs.Echelon.{vector_plus, multiple}
use Rattle.elim_fp.specs.Rows.{dense, IsRow}
use Rattle.elim_fp.proofs.Left.{row-values}
use Rattle.elim_fp.proofs.TableRows.{row-placed, row-prime, taken-row}
use Rattle.elim_fp.proofs.TableSums.{Walk, walked-none, walked-past, walked-more, walked-all}
use Rattle.elim_fp.proofs.tables.reduced.Goals.{then-place-at+then-at-table+in_ok-take_away, else-place-at, else-place-at-via-then-place-at+else-at-table, else-place-at-via-else-place-at}
use Rattle.elim_fp.proofs.tables.reduced.Goals as goal

pub loop-at-init : goal.loop-at-init
loop-at-init c =
    let w = length c.args.table.now in
    let x = c.index-table-place.result in
    let same = ap (λ r. r.values) c.in_ok-rest.ensures.cases ∙ row-values c.args.table.now c.args.place x c.requires.place c.index-table-place.is in
    record {
      is_row = subst (IsRow c.args.p w) (sym c.in_ok-rest.ensures.cases) (record {
        prime_is = row-prime c.args.p w c.args.table.now c.requires.table c.args.place x c.requires.place c.index-table-place.is;
        vector = (row-placed c.args.p w c.args.table.now c.requires.table c.args.place x c.requires.place c.index-table-place.is).vector;
      });
      values = subst (Walk c.args.p w c.args.table.now c.args.place c.terms-at-items.result.now 0) (sym same) (walked-none c.args.p w c.args.table.now c.requires.table c.args.place c.requires.place c.terms-at-items.result.now);
    }

pub take_away-requires-clause-width : goal.take_away-requires-clause-width
take_away-requires-clause-width c =
    (row-placed c.args.p (length c.args.table.now) c.args.table.now c.requires.table _ c.index-table-at.result c.if-at-table.true c.index-table-at.is).vector.wide ∙ sym c.loop-at.invariant.is_row.vector.wide

pub loop-at-preserved : goal.loop-at-preserved
loop-at-preserved c =
    let w = length c.args.table.now in
    let xs = c.terms-at-items.result.now in
    let none : Fp = record { value = 0 } in
    let t = c.loop-at.at-index in
    let x = get_or xs t (0, none) in
    elim c.if-place-at.branch [
      | then-place-at+then-at-table+in_ok-take_away u ↦
          let s = u.index-table-at.result in
          let placed = row-placed c.args.p w c.args.table.now c.requires.table x.0 s u.if-at-table.true u.index-table-at.is in
          let row = c.loop-at.invariant.is_row in
          let small = All-get_or (λ y. y.1.value < number c.index-table-place.result.prime) xs t (0, none) c.loop-at-test.true c.terms-at-items.ensures.elements in
          let prime = row-prime c.args.p w c.args.table.now c.requires.table c.args.place c.index-table-place.result c.requires.place c.index-table-place.is in
          let is = u.in_ok-take_away.ensures.difference ∙ ap (λ q. vector_plus (number q) c.loop-at.rest.values (multiple (number q) (minus (number q) x.1.value) s.values)) row.prime_is in
          record {
            is_row = rw u.rest-is (taken-row c.args.p w (minus (number c.args.p) x.1.value) c.loop-at.rest u.take_away.new.self s.values row placed.vector u.in_ok-take_away.ensures.prime is);
            values = rw (u.rest-is, add-one) (walked-more c.args.p w c.args.table.now c.requires.table c.args.place c.requires.place xs t (0, none) x c.loop-at.rest.values u.take_away.new.self.values s.values c.loop-at-test.true refl
                u.if-place-at.true u.if-at-table.true (subst (λ q. x.1.value < number q) prime small) row.vector.wide placed.vector.wide
                (row-values c.args.table.now x.0 s u.if-at-table.true u.index-table-at.is) is c.loop-at.invariant.values);
          }
      | else-place-at u ↦ record {
        is_row = rw u.rest-is c.loop-at.invariant.is_row;
        values = rw (u.rest-is, add-one) (walked-past c.args.p w c.args.table.now c.requires.table c.args.place c.requires.place xs t (0, none) x c.loop-at.rest.values c.loop-at-test.true refl
            (elim u.else-place-at.branch [
              | else-place-at-via-then-place-at+else-at-table u' ↦ inr u'.if-at-table.false
              | else-place-at-via-else-place-at u' ↦ inl u'.if-place-at.false
            ]) c.loop-at.invariant.values);
      }
    ]

pub returns-clause-values : goal.returns-clause-values
returns-clause-values c =
    let w = length c.args.table.now in
    let x = c.index-table-place.result in
    let placed = row-placed c.args.p w c.args.table.now c.requires.table c.args.place x c.requires.place c.index-table-place.is in
    let prime = row-prime c.args.p w c.args.table.now c.requires.table c.args.place x c.requires.place c.index-table-place.is in
    walked-all c.args.p w c.args.table.now c.requires.table c.args.place c.requires.place c.terms-at-items.result.now c.loop-at.at-index c.loop-at.rest.values c.loop-at-test.false
    (sym (row-values c.args.table.now c.args.place x c.requires.place c.index-table-place.is) ∙ c.terms-at-items.ensures.values ∙ (λ i. dense (number (prime i)) (placed.vector.wide i) (numbers c.terms-at-items.result.now)))
    c.loop-at.invariant.is_row.vector c.requires.later c.loop-at.invariant.values
