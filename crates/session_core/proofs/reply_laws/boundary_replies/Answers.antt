use Rattle.session_core.proofs.ReplyBoundaries.{boundary-reply}
use Rattle.session_core.proofs.reply_laws.boundary_replies.Goals as goal

pub returns : goal.returns
returns c = boundary-reply
