use Rattle.session_core.proofs.ReplyExpress.{express-reply}
use Rattle.session_core.proofs.reply_laws.express_replies.Goals as goal

pub returns : goal.returns
returns c = express-reply
