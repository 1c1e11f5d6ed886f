use Rattle.session_core.proofs.ToldLines.{line_told, told_is_line}
use Rattle.session_core.proofs.lines.lines_are_told.Goals as goal

pub returns : goal.returns
returns c = λ line asked. (line_told line asked, told_is_line line asked)
