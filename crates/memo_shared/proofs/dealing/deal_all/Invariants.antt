use Rattle.std.proofs.Common.{◌≡◌, vec_len}
use Rattle.memo_shared.proofs.Columns.{AreUnderWay}
use Rattle.memo_shared.proofs.dealing.deal_all.Given as goal

abbrev pub invariant-loop-pass : goal.invariant-loop-pass
invariant-loop-pass l = (vec_len l.lists ≡ 16) × AreUnderWay l.initial.passes.items l.passes.items l.lists.items

abbrev pub decreases-loop-pass : goal.decreases-loop-pass
decreases-loop-pass l = vec_len l.passes
