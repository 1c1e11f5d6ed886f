use Rattle.std.proofs.Common.{◌≡◌, ◌≤◌, vec_len, vec_capacity}
use Rattle.memo_shared.specs.Shared.{AtEach, IsFresh}
use Rattle.memo_shared.proofs.making.shared_memo.Given as goal

abbrev pub invariant-loop-round : goal.invariant-loop-round
invariant-loop-round l =
    (vec_len l.shards ≡ l._round) × (vec_len l.parts ≡ l._round) × (16 ≤ vec_capacity l.shards) × (16 ≤ vec_capacity l.parts) × AtEach IsFresh l.shards.items l.parts.items
