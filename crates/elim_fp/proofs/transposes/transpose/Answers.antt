use Rattle.std.proofs.Common.{◌≡◌, inl, inr, ◌<◌, ◌+◌, ◌%◌, [], All, length, get_or, sym, ◌∙◌, ap, subst, arith}
use Rattle.std.proofs.lemmas.Bool.{cases_eq}
use Rattle.std.proofs.lemmas.List.Elements.{All-get_or}
use Rattle.fp_field.specs.Field.{number}
use Rattle.fp_field.proofs.Primes.{number_pos}
use Rattle.echelons.specs.Echelon.{at_place}
use Rattle.echelons.proofs.Columns.{column}
use Rattle.elim_fp.specs.Rows.{vectors_of, IsRow}
use Rattle.elim_fp.proofs.Left.{row-values}
use Rattle.elim_fp.proofs.Turning.{column-long, column-zeros, added-to_zeros, turned-is}
use Rattle.elim_fp.proofs.transposes.transpose.Goals as goal

pub loop-place-init : goal.loop-place-init
loop-place-init c = record {
  count = c.in_ok-turned.ensures.count;
  each = c.in_ok-turned.ensures.each;
  done = λ i l. absurd (omega arith);
  left = λ i l. column-zeros (length c.args.rows.now) c.args.width c.in_ok-turned.turned.items i c.in_ok-turned.ensures.count c.in_ok-turned.ensures.zero;
}

pub loop-place-preserved : goal.loop-place-preserved
loop-place-preserved c =
    let xs = c.args.rows.now in
    let t = c.loop-place.place in
    let x = c.index-rows-place.result in
    let cur = c.loop-place.turned.items in
    let new = c.in_ok-turned-2.turned.items in
    let row = subst (IsRow c.args.p c.args.width) (sym c.index-rows-place.is) (All-get_or (IsRow c.args.p c.args.width) xs t x c.loop-place-test.true c.requires) in
    let count : length c.in_ok-turned-2.turned.items ≡ c.args.width = c.in_ok-turned-2.ensures.count ∙ c.loop-place.invariant.count in
    let here : column (vectors_of c.in_ok-turned-2.turned.items) c.loop-place.place ≡ get_or (vectors_of c.args.rows.now) c.loop-place.place [] =
    added-to_zeros (number c.args.p) c.args.width x.values row.vector (number_pos c.args.p) (column (vectors_of cur) t) (column (vectors_of new) t) (column-long new t ∙ count) (c.loop-place.invariant.left t (omega arith))
    (λ j l. c.in_ok-turned-2.ensures.here j (subst (λ n. j < n) (sym c.loop-place.invariant.count) l) ∙ ap (λ q. (at_place (column (vectors_of cur) t) j + at_place x.values j) % number q) row.prime_is)
    ∙ row-values xs t x c.loop-place-test.true c.index-rows-place.is in
    record {
      count = count;
      each = subst (λ q. All (IsRow q (length c.args.rows.now)) c.in_ok-turned-2.turned.items) row.prime_is c.in_ok-turned-2.ensures.each;
      done = λ i l. elim (cases_eq i t) [
        | inl e ↦ subst (λ k. column (vectors_of c.in_ok-turned-2.turned.items) k ≡ get_or (vectors_of c.args.rows.now) k []) (sym e) here
        | inr d ↦ c.in_ok-turned-2.ensures.others i d ∙ c.loop-place.invariant.done i (omega arith)
      ];
      left = λ i l. c.in_ok-turned-2.ensures.others i (λ e. absurd (omega arith)) ∙ c.loop-place.invariant.left i (omega arith);
    }

pub returns-clause-columns : goal.returns-clause-columns
returns-clause-columns c = turned-is c.args.p c.args.width c.args.rows.now c.loop-place.turned.items c.loop-place.invariant.count c.loop-place.invariant.each (λ i l. c.loop-place.invariant.done i (omega (arith, c.loop-place-test.false)))
