use Rattle.std.proofs.Common.{rules}
use Rattle.turnstile.specs.Passes as turns
use Rattle.turnstile.specs.Passes.{passes as parts_of}
use Rattle.memo_shared.specs.Dealt.{PartList}
use Rattle.memo_shared.proofs.Ends.{at_last, at_front, none_closed, one_closed, all_closed}
use Rattle.memo_shared.proofs.closing.close_shards.Goals as goal

pub loop-shard-init : goal.loop-shard-init
loop-shard-init c = record {
  sized = search rules;
  count = search rules;
  room = c.requires.room.1;
  whole = c.requires.whole;
  closed = none_closed c.args.lists.items c.args.books.items (search rules);
}

pub close_shard-requires : goal.close_shard-requires
close_shard-requires c =
    at_last (λ t (q : PartList). turns.IsWhole t (parts_of q)) c.loop-shard.shards.items c.pop.new.self.items c.loop-shard.lists.items c.pop-in-Some.new.self.items c.in-Some.shard
    c.in-Some-pop.parts c.in-Some.ensures.items c.in-Some-pop.ensures.items (search rules) c.loop-shard.invariant.whole

pub loop-shard-preserved : goal.loop-shard-preserved
loop-shard-preserved c = record {
  sized = search rules;
  count = search rules;
  room = search rules;
  whole = at_front (λ t (q : PartList). turns.IsWhole t (parts_of q)) c.loop-shard.shards.items c.pop.new.self.items c.loop-shard.lists.items c.pop-in-Some.new.self.items c.in-Some.shard
      c.in-Some-pop.parts c.in-Some.ensures.items c.in-Some-pop.ensures.items (search rules) c.loop-shard.invariant.whole;
  closed = one_closed c.args.lists.items c.loop-shard.lists.items c.pop-in-Some.new.self.items c.loop-shard.books.items c.push_reserved.new.self.items c.in-Some-pop.parts c.close_shard.result
      c.in-Some-pop.ensures.items c.push_reserved.ensures.items c.close_shard.ensures c.loop-shard.invariant.closed;
}

pub returns-clause-closed : goal.returns-clause-closed
returns-clause-closed c =
    all_closed c.args.lists.items c.loop-shard.lists.items c.loop-shard.books.items c.reverse.new.self.items (search rules) c.reverse.ensures.items c.loop-shard.invariant.closed
