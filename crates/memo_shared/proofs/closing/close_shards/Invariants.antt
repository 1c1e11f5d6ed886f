use Rattle.std.proofs.Common.{◌≡◌, ◌≤◌, ◌+◌, vec_len, vec_capacity}
use Rattle.turnstile.specs.Passes as turns
use Rattle.turnstile.specs.Passes.{passes as parts_of}
use Rattle.memo_shared.specs.Shared.{AtEach}
use Rattle.memo_shared.specs.Dealt.{PartList}
use Rattle.memo_shared.proofs.Ends.{AreClosed}
use Rattle.memo_shared.proofs.closing.close_shards.Given as goal

abbrev pub invariant-loop-shard : goal.invariant-loop-shard
invariant-loop-shard l = record {
  sized : vec_len l.shards ≡ vec_len l.lists;
  count : vec_len l.shards + vec_len l.books ≡ 16;
  room : 16 ≤ vec_capacity l.books;
  whole : AtEach (λ t (q : PartList). turns.IsWhole t (parts_of q)) l.shards.items l.lists.items;
  closed : AreClosed l.initial.lists.items l.lists.items l.books.items;
}

abbrev pub decreases-loop-shard : goal.decreases-loop-shard
decreases-loop-shard l = vec_len l.shards
