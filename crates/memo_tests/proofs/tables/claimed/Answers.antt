use Rattle.std.proofs.Common.{rules}
use Rattle.memo_tests.proofs.Seats.{own}
use Rattle.memo_tests.proofs.tables.claimed.Goals as goal

pub release-requires-clause-ticket : goal.release-requires-clause-ticket
release-requires-clause-ticket g c =
    own c.args.pass.now c.claim.new.pass c.args.key.now c.claim.result c.in-Ok-Granted.ticket (search rules) c.claim.ensures.answer (search rules)
