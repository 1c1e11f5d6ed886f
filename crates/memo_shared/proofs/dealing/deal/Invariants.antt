use Rattle.std.proofs.Common.{◌≡◌, vec_len}
use Rattle.memo_shared.proofs.Columns.{IsUnderWay}
use Rattle.memo_shared.proofs.dealing.deal.Given as goal

abbrev pub invariant-loop-part : goal.invariant-loop-part
invariant-loop-part l = (vec_len l.lists ≡ vec_len l.initial.parts) × IsUnderWay l.initial.lists.items l.initial.parts.items l.lists.items l.parts.items

abbrev pub decreases-loop-part : goal.decreases-loop-part
decreases-loop-part l = vec_len l.parts
