use Rattle.script_lang.proofs.Worked.{are_read, are_refused}
use Rattle.script_lang.proofs.laws.worked_lines.Goals as goal

pub returns : goal.returns
returns c = record { read = are_read; refused = are_refused }
