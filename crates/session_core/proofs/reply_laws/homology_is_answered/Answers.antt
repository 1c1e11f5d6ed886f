use Rattle.session_core.proofs.ReplyLimits.{homology-answered, betti-answered}
use Rattle.session_core.proofs.reply_laws.homology_is_answered.Goals as goal

pub returns : goal.returns
returns c = record {
  cycles = λ s e n t whole here rows low. homology-answered s whole e t here rows n low;
  dimensions = λ s e low high t whole here rows l k. betti-answered s whole e t here rows low high l k;
}
