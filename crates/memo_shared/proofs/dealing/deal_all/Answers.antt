use Rattle.std.proofs.Common.{rules}
use Rattle.memo_shared.proofs.Columns.{none_dealt, one_dealt, room_for_one, all_dealt}
use Rattle.memo_shared.proofs.dealing.deal_all.Goals as goal

pub loop-pass-init : goal.loop-pass-init
loop-pass-init c = (c.requires.sized, none_dealt c.args.passes.items c.args.lists.now.items c.requires.room)

pub deal-requires-clause-room : goal.deal-requires-clause-room
deal-requires-clause-room c = room_for_one c.args.passes.items c.loop-pass.passes.items c.pop.new.self.items c.in-Some.pass c.in-Some.ensures.items c.loop-pass.lists.items c.loop-pass.invariant.1

pub loop-pass-preserved : goal.loop-pass-preserved
loop-pass-preserved c = (
  search rules,
  one_dealt c.args.passes.items c.loop-pass.passes.items c.pop.new.self.items c.in-Some.pass c.in-Some.ensures.items c.loop-pass.lists.items c.loop-pass.invariant.1 c.deal.new.lists.items c.deal.ensures,
)

pub returns-clause-dealt : goal.returns-clause-dealt
returns-clause-dealt c = all_dealt c.args.passes.items c.loop-pass.passes.items c.loop-pass.lists.items (search rules) c.loop-pass.invariant.1
