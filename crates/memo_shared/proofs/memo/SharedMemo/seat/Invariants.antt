use Rattle.std.proofs.Common.{◌≡◌, ◌≤◌, vec_capacity}
use Rattle.memo_shared.specs.Shared.{IsSplit}
use Rattle.memo_shared.proofs.Rows.{Treated}
use Rattle.memo_shared.proofs.memo.SharedMemo.seat.Given as goal

abbrev pub invariant-loop-place : goal.invariant-loop-place
invariant-loop-place l =
    (16 ≤ vec_capacity l.parts) × (l.pass.seat ≡ l.initial.pass.seat) × (l.pass.made ≡ l.initial.pass.made) × Treated IsSplit l.self.shards.items l.initial.pass.parts.items l.pass.parts.items l.parts.items l.place
