use Rattle.force_engine.specs.Ways.{NeedsSettled}
use Rattle.force_engine.proofs.Ways.{went_self, went_both, at_left, at_right}
use Rattle.force_engine.proofs.laws.way_laws.Goals as goal

pub returns-clause-none : goal.returns-clause-none
returns-clause-none c = λ seat shard h. went_self seat shard h

pub returns-clause-both : goal.returns-clause-both
returns-clause-both c = λ seat shard h m n v w. went_both seat shard h m n v w

pub returns-clause-earlier : goal.returns-clause-earlier
returns-clause-earlier c = λ seat shard key h m n w s. at_left seat shard (λ k. NeedsSettled seat shard k h m) key h m n w.extends s

pub returns-clause-later : goal.returns-clause-later
returns-clause-later c = λ seat shard key h m n s w. at_right seat shard (λ k. NeedsSettled seat shard k m n) key h m n s w.extends
