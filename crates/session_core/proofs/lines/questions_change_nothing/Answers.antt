use Rattle.session_core.proofs.Unchanged.{question-same}
use Rattle.session_core.proofs.lines.questions_change_nothing.Goals as goal

pub returns : goal.returns
returns c = question-same
