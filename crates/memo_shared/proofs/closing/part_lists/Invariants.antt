use Rattle.std.proofs.Common.{◌≡◌, ◌≤◌, ℕ, slice_get, vec_len, vec_capacity, Some}
use Rattle.memo_shared.specs.Dealt.{HasRoom, PartList}
use Rattle.memo_shared.proofs.closing.part_lists.Given as goal

abbrev pub invariant-loop-place : goal.invariant-loop-place
invariant-loop-place l =
    (vec_len l.lists ≡ l._place) × (16 ≤ vec_capacity l.lists) × ((place : ℕ) (q : PartList) → slice_get l.lists.items place ≡ Some q → HasRoom l.passes q)
