use Rattle.std.proofs.Common.{rules}
use Rattle.memo_shared.specs.Dealt.{HasRoom}
use Rattle.memo_shared.proofs.Among.{each_more}
use Rattle.memo_shared.proofs.closing.part_lists.Goals as goal

pub loop-place-preserved : goal.loop-place-preserved
loop-place-preserved c =
    let i = c.loop-place.invariant in (
      search rules,
      search rules,
      each_more c.loop-place.lists.items c.push_reserved.new.self.items c.in_ok-with_room.field-0 c.push_reserved.ensures.items (HasRoom c.args.passes) i.2 c.in_ok-with_room.ensures,
    )
