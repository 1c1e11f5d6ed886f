use Rattle.session_core.proofs.Unchanged.{refused-kept}
use Rattle.session_core.proofs.lines.refused_lines_change_nothing.Goals as goal

pub returns : goal.returns
returns c = refused-kept
