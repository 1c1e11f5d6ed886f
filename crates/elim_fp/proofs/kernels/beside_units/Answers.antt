use Rattle.std.proofs.Common.{◌+◌, add-one, length, sym, subst}
use Rattle.std.proofs.lemmas.List.Elements.{All-push, All-get_or}
use Rattle.elim_fp.specs.Rows.{IsRow}
use Rattle.elim_fp.proofs.Related.{marked-more, marked-all, marked-row}
use Rattle.elim_fp.proofs.kernels.beside_units.Goals as goal

pub loop-place-preserved : goal.loop-place-preserved
loop-place-preserved c =
    let xs = c.args.rows.now in
    let i = c.loop-place.place in
    let x = c.index-rows-place.result in
    let y = c.in_ok-beside_unit.field-0 in
    let row = subst (IsRow c.args.p c.args.width) (sym c.index-rows-place.is) (All-get_or (IsRow c.args.p c.args.width) xs i x c.loop-place-test.true c.requires.rows) in
    record {
      rows = rw add-one (marked-more xs c.loop-place.marked.items c.push.new.self.items i x y c.loop-place-test.true c.index-rows-place.is c.in_ok-push.ensures.items c.in_ok-beside_unit.ensures.values c.loop-place.invariant.rows);
      each = rw c.in_ok-push.ensures.items (All-push (IsRow c.args.p (c.args.width + length c.args.rows.now)) c.loop-place.marked.items y c.loop-place.invariant.each
          (marked-row c.args.p c.args.width i (length c.args.rows.now) x y row c.in_ok-beside_unit.ensures.prime c.in_ok-beside_unit.ensures.values));
    }

pub returns-clause-rows : goal.returns-clause-rows
returns-clause-rows c = marked-all c.args.rows.now c.loop-place.marked.items c.loop-place.place c.loop-place-test.false c.loop-place.invariant.rows
