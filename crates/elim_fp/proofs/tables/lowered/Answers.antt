use Rattle.std.proofs.Common.{◌<◌, length, sym, ◌∙◌, ap, arith}
use Rattle.echelons.specs.Echelon.{lead}
use Rattle.elim_fp.proofs.TableRows.{same-item, lowered-row, lowered-span, lowered-later, row-placed}
use Rattle.elim_fp.proofs.tables.lowered.Goals as goal

pub take_away-requires-clause-width : goal.take_away-requires-clause-width
take_away-requires-clause-width c =
    (row-placed c.args.p (length c.args.row.now.values) c.args.table.now c.requires.table c.loop-place.place c.index-table-place-in-loop-place.result c.loop-place-test.true c.index-table-place-in-loop-place.is).vector.wide
    ∙ sym c.loop-place.invariant.is_row.vector.wide

pub loop-place-smaller : goal.loop-place-smaller
loop-place-smaller c =
    let t = c.index-table-place-in-loop-place.result in
    let leads = ap (λ r. lead r.values) (same-item c.args.table.now c.loop-place.place t c.index-table-place.result c.loop-place-test.true c.index-table-place-in-loop-place.is c.index-table-place.is)
    ∙ sym c.lead.ensures ∙ c.if-lead-place.true in
    let later : c.loop-place.place < lead c.take_away.new.self.values =
    lowered-later c.args.p (length c.args.row.now.values) c.args.table.now c.requires.table c.loop-place.place c.entry-coefficient.result.value c.loop-place.rest t c.take_away.new.self
    c.loop-place.invariant.is_row c.loop-place-test.true c.index-table-place-in-loop-place.is leads c.loop-place.invariant.place_is c.entry-coefficient.ensures.value c.take_away.ensures.prime c.in_ok-take_away.ensures.difference in
    omega (arith, later, c.lead-place-in-loop-place.ensures, c.loop-place-test.true)

pub loop-place-preserved : goal.loop-place-preserved
loop-place-preserved c =
    let t = c.index-table-place-in-loop-place.result in
    let leads = ap (λ r. lead r.values) (same-item c.args.table.now c.loop-place.place t c.index-table-place.result c.loop-place-test.true c.index-table-place-in-loop-place.is c.index-table-place.is)
    ∙ sym c.lead.ensures ∙ c.if-lead-place.true in
    record {
      place_is = c.lead-place-in-loop-place.ensures;
      is_row = lowered-row c.args.p (length c.args.row.now.values) c.args.table.now c.requires.table c.loop-place.place c.entry-coefficient.result.value c.loop-place.rest t c.take_away.new.self
          c.loop-place.invariant.is_row c.loop-place-test.true c.index-table-place-in-loop-place.is leads c.loop-place.invariant.place_is c.entry-coefficient.ensures.value c.take_away.ensures.prime c.in_ok-take_away.ensures.difference;
      span = λ x. let step = lowered-span c.args.p (length c.args.row.now.values) c.args.table.now c.requires.table c.loop-place.place c.entry-coefficient.result.value c.loop-place.rest t c.take_away.new.self
          c.loop-place.invariant.is_row c.loop-place-test.true c.index-table-place-in-loop-place.is leads c.loop-place.invariant.place_is c.entry-coefficient.ensures.value c.take_away.ensures.prime c.in_ok-take_away.ensures.difference x in
          let rest = c.loop-place.invariant.span x in (λ d. rest.0 (step.0 d), λ d. step.1 (rest.1 d));
    }
