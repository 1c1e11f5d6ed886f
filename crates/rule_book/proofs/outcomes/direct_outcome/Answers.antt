use Rattle.rule_book.proofs.WithinLimits.{read_at_once, row-treated, row-within}
use Rattle.rule_book.proofs.outcomes.direct_outcome.Goals as goal

pub within_limits-requires-clause-key : goal.within_limits-requires-clause-key
within_limits-requires-clause-key c = row-treated c.args.key.now c.requires.key

pub within_limits-requires-clause-place : goal.within_limits-requires-clause-place
within_limits-requires-clause-place c = row-within c.args.key.now c.requires.key

pub within_limits-requires-clause-found : goal.within_limits-requires-clause-found
within_limits-requires-clause-found c = read_at_once c.args.key.now c.requires.key c.requires.op c.in_ok-body.body c.in_ok-body.ensures
