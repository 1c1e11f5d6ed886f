use Rattle.kernel_run.proofs.Shared.{untold_claim}
use Rattle.kernel_run.proofs.shared_book.claim_at.Goals as goal

pub returns : goal.returns
returns c = untold_claim c.args.book.now c.claim.new.self c.args.key.now c.args.seat 0 c.kept.ensures c.claim.result c.claim.ensures
