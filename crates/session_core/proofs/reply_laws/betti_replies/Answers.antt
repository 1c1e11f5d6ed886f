use Rattle.session_core.proofs.ReplyCounts.{betti-reply}
use Rattle.session_core.proofs.reply_laws.betti_replies.Goals as goal

pub returns : goal.returns
returns c = betti-reply
