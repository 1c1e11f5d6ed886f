use Rattle.session_core.proofs.ReplyCycles.{homology-reply}
use Rattle.session_core.proofs.ReplyLines.{homology-line}
use Rattle.session_core.proofs.reply_laws.homology_replies.Goals as goal

pub returns : goal.returns
returns c = record { questions = λ s e n t zs whole r. homology-reply s e n t zs whole r; lines = λ s line t zs whole r. homology-line s whole line t zs r }
