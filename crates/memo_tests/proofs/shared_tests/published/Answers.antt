use Rattle.std.proofs.Common.{rules, ◌∙◌, sym}
use Rattle.memo_tests.proofs.Seats.{of_key, own}
use Rattle.memo_tests.proofs.shared_tests.published.Goals as goal

pub publish-requires-clause-value : goal.publish-requires-clause-value
publish-requires-clause-value g c =
    c.requires.cell ∙ sym (of_key c.args.one.now c.claim.new.pass c.args.key.now c.claim.result c.in-Ok-Granted.ticket (search rules) c.claim.ensures.answer)

pub publish-requires-clause-ticket : goal.publish-requires-clause-ticket
publish-requires-clause-ticket g c =
    own c.args.one.now c.claim.new.pass c.args.key.now c.claim.result c.in-Ok-Granted.ticket (search rules) c.claim.ensures.answer (search rules)
