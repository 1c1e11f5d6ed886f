use Rattle.std.proofs.Common.{length, arith}
use Rattle.elim_fp.proofs.TableSums.{later-at, reduce-at}
use Rattle.elim_fp.proofs.tables.reduce_table.Goals as goal

pub reduced-requires-clause-later : goal.reduced-requires-clause-later
reduced-requires-clause-later c =
    later-at c.args.p (length c.args.table.items) c.loop-place.place c.loop-place.table.items c.deref.result.now c.deref.ensures.value c.loop-place.invariant.table.count c.loop-place-test.true c.loop-place.invariant.echelon

pub loop-place-preserved : goal.loop-place-preserved
loop-place-preserved c =
    let s = reduce-at c.args.p (length c.args.table.items) c.loop-place.place c.loop-place.table.items c.deref.result.now c.in_ok-row.row c.deref.ensures.value c.loop-place.invariant.table c.loop-place-test.true
    c.loop-place.invariant.within c.loop-place.invariant.echelon c.in_ok-row.ensures.prime c.in_ok-row.ensures.values in
    record {
      within = omega (arith, c.loop-place.invariant.within);
      table = s.0;
      echelon = s.1;
      span = λ x. let a = s.2 x in let b = c.loop-place.invariant.span x in (λ d. b.0 (a.0 d), λ d. a.1 (b.1 d));
    }
