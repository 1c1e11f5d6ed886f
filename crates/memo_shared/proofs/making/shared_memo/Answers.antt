use Rattle.std.proofs.Common.{rules}
use Rattle.memo_shared.specs.Shared.{IsFresh}
use Rattle.memo_shared.proofs.Rows.{at_pushed}
use Rattle.memo_shared.proofs.Made.{fresh_fronts}
use Rattle.memo_shared.proofs.making.shared_memo.Goals as goal

pub loop-round-preserved : goal.loop-round-preserved
loop-round-preserved c =
    let i = c.loop-round.invariant in (
      search rules,
      search rules,
      search rules,
      search rules,
      at_pushed IsFresh _ _ _ _ _ _ c.push_reserved.ensures.items c.push_reserved-in-loop-round.ensures.items (search rules) i.4 c.in_ok-shard.ensures,
    )

pub returns-clause-fronts : goal.returns-clause-fronts
returns-clause-fronts c = fresh_fronts _ _ (search rules) c.loop-round.invariant.4
