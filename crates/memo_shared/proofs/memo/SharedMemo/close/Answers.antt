use Rattle.std.proofs.Common.{◌≤◌, rules, subst}
use Rattle.turnstile.specs.Passes.{room_left}
use Rattle.memo_shared.specs.Dealt.{AreDealt}
use Rattle.memo_shared.proofs.Ends.{turns_whole, all_go_on, all_have_seats}
use Rattle.memo_shared.proofs.memo.SharedMemo.close.Goals as goal

pub deal_all-requires-clause-room : goal.deal_all-requires-clause-room
deal_all-requires-clause-room c place l e =
    let r = c.in-Ok.ensures.room place l e in
    (r.0, subst (λ n. n ≤ room_left l) (search rules) r.1)

pub close_shards-requires-clause-whole : goal.close_shards-requires-clause-whole
close_shards-requires-clause-whole c = turns_whole c.args.self c.args.passes c.requires.whole c.deal_all.new.lists.items (subst (λ ps. AreDealt ps c.deal_all.new.lists.items) c.passes.view_is c.deal_all.ensures.dealt)

pub returns-clause-fronts : goal.returns-clause-fronts
returns-clause-fronts c =
    all_go_on c.args.self c.args.passes c.requires.whole c.deal_all.new.lists.items (subst (λ ps. AreDealt ps c.deal_all.new.lists.items) c.passes.view_is c.deal_all.ensures.dealt) c.close_shards.result (search rules) (search rules) c.close_shards.ensures.sized
    c.close_shards.ensures.closed

pub returns-clause-seats : goal.returns-clause-seats
returns-clause-seats c =
    all_have_seats c.args.self c.args.passes c.requires.whole c.deal_all.new.lists.items (subst (λ ps. AreDealt ps c.deal_all.new.lists.items) c.passes.view_is c.deal_all.ensures.dealt) c.close_shards.result (search rules) (search rules) c.close_shards.ensures.sized
    c.close_shards.ensures.closed
