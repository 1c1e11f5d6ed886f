use Rattle.kernel_run.proofs.Shared.{untold_look}
use Rattle.kernel_run.proofs.shared_book.look_at.Goals as goal

pub returns : goal.returns
returns c = untold_look c.args.book.now c.args.key.now 0 0 c.kept.ensures c.look.result c.look.ensures
