use Rattle.std.proofs.Common.{rules}
use Rattle.memo_shared.specs.Shared.{IsSplit}
use Rattle.memo_shared.proofs.Rows.{treats}
use Rattle.memo_shared.proofs.Made.{first_parts, new_parts, split_fronts}
use Rattle.memo_shared.proofs.memo.SharedMemo.seat.Goals as goal

pub loop-place-preserved : goal.loop-place-preserved
loop-place-preserved c =
    let i = c.loop-place.invariant in (
      search rules,
      search rules,
      search rules,
      treats IsSplit _ _ _ _ _ c.loop-place.place c.index.result.now c.index_mut.result.now c.split_part.new.part c.split_part.result (search rules) (search rules) c.index.ensures
          c.index_mut.ensures.value c.push_reserved.ensures.items c.split_part.ensures i.3,
    )

pub returns-clause-pass : goal.returns-clause-pass
returns-clause-pass c =
    let i = c.loop-place.invariant in (
      record { each = new_parts _ _ _ _ _ _ _ c.requires.first.0 (search rules) (search rules) c.requires.pass.each i.3 _ i.2 },
      record { each = first_parts _ _ _ _ _ _ _ c.requires.first.0 (search rules) (search rules) c.requires.pass.each i.3 _ _ i.1 i.2 },
    )

pub returns-clause-fronts : goal.returns-clause-fronts
returns-clause-fronts c =
    let i = c.loop-place.invariant in
    split_fronts _ _ _ _ _ _ _ c.requires.first.0 (search rules) (search rules) c.requires.pass.each i.3
